-- What proofs need of a definition that rows make. They speak of any definition with this, so that only the laws of `RowLaws`
-- know how `definition_of` makes one.
use Rattle.std.specs.Prelude.{ℕ, ◌<◌, ◌≡◌, Bool, true}
use mathlib.Core.List.{List, Memᴰ}
use Rattle.wellfounded.specs.Definitions.{Rule, Definition, is_defined}
use Rattle.tables.specs.Rows.{rule_count, rule_head, rule_at}

-- The rules of the definition are those of the rows that a test takes.
pub record HasRowsOf (d : Definition) (rules literals : List ℕ) (takes : ℕ → Bool) : Type 0 where
  pub rule_row :
      {r : Rule} → Memᴰ r d.rules → (row : ℕ) × (row < rule_count rules) × (takes row ≡ true) × (r ≡ rule_at rules literals row)
  pub row_rule : (row : ℕ) → row < rule_count rules → takes row ≡ true → Memᴰ (rule_at rules literals row) d.rules
  pub head_defined :
      (row : ℕ) → row < rule_count rules → takes row ≡ true → rule_head rules row < d.size → is_defined d (rule_head rules row) ≡ true

-- The same where all rows are taken.
pub record HasRows (d : Definition) (rules literals : List ℕ) : Type 0 where
  -- A rule of the definition stands in a row,
  pub rule_row : {r : Rule} → Memᴰ r d.rules → (row : ℕ) × (row < rule_count rules) × (r ≡ rule_at rules literals row)
  -- a row is a rule of the definition,
  pub row_rule : (row : ℕ) → row < rule_count rules → Memᴰ (rule_at rules literals row) d.rules
  -- and its head is defined.
  pub head_defined : (row : ℕ) → row < rule_count rules → rule_head rules row < d.size → is_defined d (rule_head rules row) ≡ true
