-- Where the rounds start: the setting by the marks of the defined atoms, and the atoms that occur negated.
use Rattle.std.specs.Prelude.{ℕ, Bool, not, cond, ◌&&◌, List, eqb, length}
use Rattle.wellfounded.specs.Lists.{any, tabulate}
use Rattle.wellfounded.specs.Literals.{is_held, value_at, atom_of, is_negated}
use Rattle.tables.specs.internal.Marks.{is_marked}

-- Stage 0 by the marks of the defined atoms.
unfoldable pub start_values : List ℕ → List ℕ → List ℕ
start_values defined setting = tabulate (length setting) (λ atom. cond (is_marked defined atom) 2 (value_at setting atom))

-- 21 by those marks.
unfoldable pub bad_start : List ℕ → List ℕ → ℕ → Bool
bad_start defined setting atom = not (cond (is_marked defined atom) (eqb (value_at setting atom) 0) (is_held (value_at setting atom)))

-- The atom occurs negated somewhere in the literal table.
unfoldable pub occurs_negated : List ℕ → ℕ → Bool
occurs_negated literals atom = any (λ literal. is_negated literal && eqb (atom_of literal) atom) literals
