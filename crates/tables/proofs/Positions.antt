-- How high the position of a verdict can be: no test of sound tables looks at more than 65,536 positions.
-- Assumes nothing.
use Prim.Native.Nat.{ℕ, suc, ◌≤◌}
use mathlib.Core.Path.{◌≡◌, refl}
use mathlib.Core.List.{List, [], ◌∷◌, ◌++◌, Memᴰ}
use native.Mathlib.Omega.{arith}
use borrow.Author.Tests.{not-false}
use Rattle.std.specs.declared.option.Option.{Option}
use Rattle.std.specs.declared.option.Option.TheVariants.{Some, None}
use Rattle.tables.specs.Faults.{accepted}
use Rattle.tables.specs.Limits.{max_position}
use Rattle.tables.specs.Faults.{position_of, lowest, Test, refused_or, first_fault, Absent}
use Rattle.tables.specs.Rows.{rule_count, clause_count, definition_of}
use Rattle.tables.specs.Loads.{load_count}
use Rattle.tables.specs.Sound.{Tables, group_of, book_of, table_tests, Slice, lent_tests, slice_test, mark_count_test, mark_test, Sizes}
use Rattle.tables.proofs.Faults.{lowest_at, nothing_absent, accepted_absent}
use Rattle.tables.proofs.SoundTables.{sizes_fault}

-- A test before others whose position is small if this one finds nothing.
pub position_more :
    (x : Test) (xs : List Test) → x.positions ≤ suc max_position → (Absent x → position_of (first_fault xs) ≤ max_position) →
    position_of (first_fault (x ∷ xs)) ≤ max_position
unfolding first_fault refused_or
position_more x xs few later = step (lowest x.positions x.bad) refl
  where
    step : (found : Option ℕ) → lowest x.positions x.bad ≡ found → position_of (refused_or x.fault found (first_fault xs)) ≤ max_position
    step (Some p) e = omega (arith, (lowest_at x.bad x.positions p e).0)
    step None e = later (nothing_absent x e)

-- Few positions in each of several tests.
abbrev pub Few : Test → Type 0
Few test = test.positions ≤ suc max_position

pub position_each :
    (xs ys : List Test) → ((x : Test) → Memᴰ x xs → Few x) → position_of (first_fault ys) ≤ max_position →
    position_of (first_fault (xs ++ ys)) ≤ max_position
position_each [] ys few later = later
position_each (x ∷ xs) ys few later =
    position_more x (xs ++ ys) (few x (Memᴰ.head refl)) (λ a. position_each xs ys (λ y m. few y (Memᴰ.tail m)) later)

pub position_none : position_of (first_fault []) ≤ max_position
unfolding first_fault
position_none = omega arith

module _ (t : Tables) where
  -- Tables that are not refused for their sizes have small ones.
  pub passed_sizes : (others : List Slice) (more : List Test) → first_fault (lent_tests t others ++ more) ≡ accepted → Sizes t
  unfolding lent_tests table_tests
  passed_sizes others more e =
      (sizes_fault t).0 (not-false _ ((accepted_absent (lent_tests t others ++ more) e _ (Memᴰ.head refl)).nowhere 0 (omega arith)))

  module _ (z : Sizes t) where
    pub few_rules_lem : rule_count t.rules ≤ suc max_position
    unfolding rule_count
    few_rules_lem = omega (arith, z.few_rules)

    pub few_clauses_lem : clause_count t.clauses ≤ suc max_position
    unfolding clause_count
    few_clauses_lem = omega (arith, z.few_clauses)

    pub few_loads_lem : load_count t.loads ≤ suc max_position
    unfolding load_count
    few_loads_lem = omega (arith, z.few_loads)

    pub few_atoms_lem : t.atoms ≤ suc max_position
    few_atoms_lem = omega (arith, z.few_atoms)

    pub few_in_group : (group : ℕ) → (group_of t group).size ≤ suc max_position
    unfolding group_of definition_of
    few_in_group group = few_atoms_lem

    pub few_in_book : (book_of t).size ≤ suc max_position
    unfolding book_of
    few_in_book = few_in_group 0

  -- The tests of what is lent, before others whose position is small where the tables have the sizes that they may have.
  pub lent_position :
      (others : List Slice) (more : List Test) → (Sizes t → position_of (first_fault more) ≤ max_position) →
      position_of (first_fault (lent_tests t others ++ more)) ≤ max_position
  unfolding lent_tests table_tests slice_test mark_count_test mark_test
  lent_position others more later =
      position_more _ _ (omega arith) (λ a.
      let z = (sizes_fault t).0 (not-false _ (a.nowhere 0 (omega arith))) in
      position_more _ _ (few_rules_lem z) (λ b. position_more _ _ (few_clauses_lem z) (λ c. position_more _ _ (few_loads_lem z) (λ e.
      position_more _ _ (omega (arith, z.few_literals)) (λ f. position_more _ _ (omega (arith, z.few_terms)) (λ g.
      position_more _ _ (omega arith) (λ h. position_more _ _ (omega arith) (λ i. position_more _ _ (few_atoms_lem z) (λ j. later z)))))))))
