-- How high the position of a claim's verdict can be.
-- Assumes nothing.
use Prim.Native.Nat.{ℕ, ◌≤◌}
use mathlib.Core.List.{List}
use Rattle.tables.specs.Limits.{max_position}
use Rattle.tables.specs.Faults.{position_of, first_fault}
use Rattle.tables.specs.Rows.{group_count}
use Rattle.tables.specs.Sound.{Tables, Sizes}
use Rattle.tables.proofs.Positions.{position_more, Few, position_each, few_rules_lem, few_atoms_lem, few_in_group, lent_position}
use Rattle.tables.proofs.Faults.{each_both, each_turn}
use Rattle.satisfaction.proofs.Positions.{satisfaction_position}
use Rattle.checker.specs.Check.{value_test, level_test, support_test, blocking_test, level_tests, claim_tests, check_tests, check_of}

claim_position : (t : Tables) → Sizes t → (values levels : List ℕ) → position_of (first_fault (claim_tests t values levels)) ≤ max_position
unfolding claim_tests value_test level_tests level_test support_test blocking_test
claim_position t z values levels =
    let groups = group_count t.rules in
    position_more _ _ (few_atoms_lem t z) (λ a.
    position_each _ _
    (each_both Few (each_turn Few groups _ (λ group l. few_in_group t z group))
    (each_both Few (each_turn Few groups _ (λ group l. few_in_group t z group)) (each_turn Few groups _ (λ group l. few_rules_lem t z))))
    (satisfaction_position t z values))

pub check_position : (t : Tables) (values levels : List ℕ) → position_of (check_of t values levels) ≤ max_position
unfolding check_of check_tests
check_position t values levels = lent_position t _ _ (λ z. claim_position t z values levels)
