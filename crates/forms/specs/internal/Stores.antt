-- A form's entries, stored where the state has come to in each table.
use Rattle.std.specs.Prelude.{ℕ, cond, List, [], ◌∷◌}
use Rattle.std.proofs.lemmas.List.Edits.{sets}
use Rattle.format.specs.Forms.{Form}
use Rattle.judging.specs.declared.reached.Reached.{Reached}
use Rattle.judging.specs.LentTables.{Table}
use Rattle.judging.specs.States.{after, count_in}
use Rattle.forms.specs.Contents.{Contents}
use Rattle.forms.specs.Entries.{given_anew, entries_of}

-- Entries that are given anew start at the front, others behind those that are counted.
unfoldable pub place_in : Reached → Table → ℕ
place_in s table = cond (given_anew table) 0 (count_in s table)

unfoldable pub store : Reached → Contents → Contents → Contents
store s entries held table = sets (held table) (place_in s table) (entries table)

unfoldable pub store_forms : Reached → List Form → Contents → Contents
store_forms s [] held = held
store_forms s (f ∷ fs) held = store_forms (after s f) fs (store s (entries_of s f) held)
