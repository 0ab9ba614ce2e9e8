-- How high the position of a failing clause or load line can be.
-- Assumes nothing.
use Prim.Native.Nat.{ℕ, ◌≤◌}
use mathlib.Core.List.{List}
use Rattle.tables.specs.Limits.{max_position}
use Rattle.tables.specs.Faults.{position_of, first_fault}
use Rattle.tables.specs.Sound.{Tables, Sizes}
use Rattle.tables.proofs.Positions.{position_more, position_none, few_clauses_lem, few_loads_lem}
use Rattle.satisfaction.specs.Satisfied.{clause_test, load_test, satisfaction_tests}

pub satisfaction_position : (t : Tables) → Sizes t → (values : List ℕ) → position_of (first_fault (satisfaction_tests t values)) ≤ max_position
unfolding satisfaction_tests clause_test load_test
satisfaction_position t z values = position_more _ _ (few_clauses_lem t z) (λ a. position_more _ _ (few_loads_lem t z) (λ b. position_none))
