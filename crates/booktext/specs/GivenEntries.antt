-- What a book's forms put into marks, values and levels, said entry by entry.
use Rattle.std.specs.Prelude.{ℕ, ◌≡◌, length, get_or}
use mathlib.Core.List.{List, [], map, Memᴰ}
use Rattle.format.specs.Forms.{PairText}
use Rattle.items.specs.Items.{level_columns}
use Rattle.judging.specs.LentTables.{Values, Levels}
use Rattle.forms.specs.Contents.{Contents}

-- An entry for each of N atoms: 1 exactly at the atoms that are named, and 0 elsewhere. So are the marks of every book, where its defined form
-- names the atoms; without such a form none is named.
pub record OnesExactly (size : ℕ) (atoms entries : List ℕ) : Type 0 where
  pub many : length entries ≡ size
  pub named : (atom : ℕ) → Memᴰ atom atoms → get_or entries atom 0 ≡ 1
  pub others : (atom : ℕ) → (Memᴰ atom atoms → ⊥) → get_or entries atom 0 ≡ 0

-- `(open A ..)` gives N values, 1 exactly at the atoms that it names and 0 elsewhere, and no levels.
pub record OpenEntries (size : ℕ) (atoms : List ℕ) (entries : Contents) : Type 0 where
  pub values : OnesExactly size atoms (entries Values)
  pub levels : entries Levels ≡ []

-- `(claim (V K ..) ..)` gives the values of its pairs in turn, one for every atom, and their levels group by group.
pub record ClaimEntries (size groups : ℕ) (pairs : List PairText) (entries : Contents) : Type 0 where
  pub many : length pairs ≡ size
  pub values : entries Values ≡ map (λ (p : PairText). p.value) pairs
  pub levels : entries Levels ≡ level_columns groups pairs
