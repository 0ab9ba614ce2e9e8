-- Rows that make their heads true.
use Rattle.std.specs.Prelude.{ℕ, Bool, not, ◌&&◌, List, eqb}
use Rattle.wellfounded.specs.Lists.{any_below}
use Rattle.wellfounded.specs.Literals.{is_held, value_at, body_true}
use Rattle.tables.specs.Rows.{rule_head, rule_body}

-- A row makes its head true if that is undecided and the body is all true.
unfoldable pub row_fires : List ℕ → List ℕ → List ℕ → ℕ → Bool
row_fires rules literals state row =
    not (is_held (value_at state (rule_head rules row))) && body_true state (rule_body rules literals row)

-- One of the first n rows makes the atom true.
unfoldable pub fires_by : List ℕ → List ℕ → List ℕ → ℕ → ℕ → Bool
fires_by rules literals state n atom = any_below n (λ row. eqb (rule_head rules row) atom && row_fires rules literals state row)
