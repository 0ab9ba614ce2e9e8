-- The used parts of the tables that a book was read into are its entries.
-- Assumes nothing.
use Prim.Native.Nat.{◌*◌, ◌≤◌}
use mathlib.Core.Path.{◌≡◌, refl, sym, ◌∙◌}
use mathlib.Core.Bool.{false}
use native.Mathlib.Omega.{arith}
use lib.ListN.{length}
use Rattle.std.specs.Prelude.{Ok}
use Rattle.judging.specs.declared.reached.Reached.{Reached}
use Rattle.judging.specs.LentTables.{Table, Rules, Literals, Clauses, Loads, LoadLiterals, Minutes, Marks, Values, Levels}
use Rattle.judging.specs.declared.reached.Phase.TheVariants.{OpenStood, ClaimStood}
use Rattle.judging.specs.States.{rank, groups_reached, count_in}
use Rattle.judging.proofs.StateLaws.{values_told, levels_told}
use Rattle.forms.specs.Contents.{Contents, filled}
use Rattle.forms.specs.Entries.{given_anew}
use Rattle.forms.proofs.OverLaws.{over_front}
use Rattle.booktext.specs.Answers.{answer_of}
use Rattle.booktext.specs.UsedParts.{used_in, used_parts, tables_of}
use Rattle.booktext.proofs.Filling.{each_laid}

-- There is one group so far, and so as many levels as atoms.
pub one_group_read : (s : Reached) → groups_reached s ≡ 1
unfolding groups_reached
one_group_read s = refl

pub one_level : (s : Reached) → s.size ≡ s.size * groups_reached s
one_level s = rw (one_group_read s) (omega arith)

-- The used parts of filled tables are the entries.
module _ (s : Reached) (used held : Contents) (counts : (table : Table) → length (used table) ≡ count_in s table) where
  pub used_part :
      (table : Table) → used_in (answer_of (Ok s)) table ≡ count_in s table →
      used_parts (answer_of (Ok s)) (filled used held) table ≡ used table
  unfolding used_parts filled
  used_part table e = over_front (used table) (held table) _ (counts table ∙ sym e)

  -- Of the tables that entries are laid down in, what is counted is used.
  pub laid_used : (table : Table) → given_anew table ≡ false → used_in (answer_of (Ok s)) table ≡ count_in s table
  unfolding used_in answer_of count_in
  laid_used = each_laid (λ table. used_in (answer_of (Ok s)) table ≡ count_in s table) refl refl refl refl refl refl

  pub used_marks : rank OpenStood ≤ rank s.phase → used_parts (answer_of (Ok s)) (filled used held) Marks ≡ used Marks
  unfolding used_in answer_of count_in
  used_marks e = used_part Marks (sym (values_told s e))

  pub used_tables : rank OpenStood ≤ rank s.phase → tables_of s.size (used_parts (answer_of (Ok s)) (filled used held)) ≡ tables_of s.size used
  unfolding tables_of given_anew
  used_tables e =
      rw (
        used_part Rules (laid_used Rules refl),
        used_part Literals (laid_used Literals refl),
        used_part Clauses (laid_used Clauses refl),
        used_part Loads (laid_used Loads refl),
        used_part LoadLiterals (laid_used LoadLiterals refl),
        used_part Minutes (laid_used Minutes refl),
        used_marks e,
      )

  pub used_values : rank OpenStood ≤ rank s.phase → used_parts (answer_of (Ok s)) (filled used held) Values ≡ used Values
  unfolding used_in answer_of count_in
  used_values e = used_part Values (sym (values_told s e))

  pub used_levels : rank ClaimStood ≤ rank s.phase → used_parts (answer_of (Ok s)) (filled used held) Levels ≡ used Levels
  unfolding used_in answer_of count_in
  used_levels e = used_part Levels (one_level s ∙ sym (levels_told s e))
