-- `checker::check` meets its contract: tables without a fault leave the verdict to the slices, these to the marks, and these to the claim.
use Prim.Native.Nat.{ℕ, ◌*◌, ◌≤◌}
use mathlib.Core.Path.{◌≡◌, sym, refl, ap, ◌∙◌}
use mathlib.Core.List.Memᴰ
use mathlib.Core.List.{◌∷◌}
use native.Mathlib.Nat.{mul-le-mul}
use native.Mathlib.Omega.{arith}
use Rattle.tables.specs.Faults.{first_fault}
use Rattle.tables.specs.Limits.{max_atoms}
use Rattle.tables.specs.Rows.{group_count}
use Rattle.tables.specs.Sound.{Tables, lent, claim_slices, table_tests, slice_test, mark_count_test, mark_test}
use Rattle.tables.proofs.Faults.{accepted_absent, first_refuse, verdict_leaves, same_required, other_refused}
use Rattle.tables.proofs.SoundTables.{sound_sizes, lent_order, slice_refuses, slice_leaves, sized_none, sized_more, marks_refuse, marks_leave}
use Rattle.checker.specs.Check.{claim_tests, check_tests, check_of}
use Rattle.checker.proofs.DefinedMarks.{claim_ready}
use Rattle.checker.proofs.check.Goals as goal

pub returns-in_err-table_fault : goal.returns-in_err-table_fault
unfolding check_of check_tests
returns-in_err-table_fault c =
    let given : Tables =
    lent c.args.atoms c.args.rules.now c.args.literals.now c.args.clauses.now c.args.loads.now c.args.load_literals.now c.args.minutes.now c.args.marks.now in
    first_refuse _ (table_tests (given)) _ _ _ (ap first_fault (lent_order (given) _ _)) (c.table_fault.ensures c.args.marks.now) c.in_err-table_fault.was c.from_residual.ensures.1

pub returns-in_err-require : goal.returns-in_err-require
unfolding check_of check_tests lent
returns-in_err-require c =
    let given : Tables =
    lent c.args.atoms c.args.rules.now c.args.literals.now c.args.clauses.now c.args.loads.now c.args.load_literals.now c.args.minutes.now c.args.marks.now in
    let tables-fit : let t = given in check_of t c.args.values.now c.args.levels.now ≡ first_fault (slice_test (claim_slices t c.args.values.now c.args.levels.now) ∷ mark_count_test t ∷ mark_test t ∷ claim_tests t c.args.values.now c.args.levels.now) =
    verdict_leaves _ (table_tests (given)) _ _ (ap first_fault (lent_order (given) _ _)) (c.table_fault.ensures c.args.marks.now) c.in_ok-table_fault.was in
    let other = other_refused _ _ _ _ _ c.require.ensures c.in_err-require.was c.from_residual-in_err-require.ensures.1 in
    other.1 ∙ sym (tables-fit ∙ slice_refuses _ _ _ (Memᴰ.head refl) other.0)

pub overflow_mul-groups : goal.overflow_mul-groups
unfolding lent
overflow_mul-groups c =
    let given : Tables =
    lent c.args.atoms c.args.rules.now c.args.literals.now c.args.clauses.now c.args.loads.now c.args.load_literals.now c.args.minutes.now c.args.marks.now in
    let few_atoms_lem : c.args.atoms ≤ max_atoms =
    (sound_sizes (given) (accepted_absent (table_tests (given)) (rw (← c.table_fault.ensures c.args.marks.now) c.in_ok-table_fault.was))).few_atoms in
    omega (arith, mul-le-mul c.group_count-groups.ensures.1 (few_atoms_lem))

pub returns-in_err-require-2 : goal.returns-in_err-require-2
unfolding check_of check_tests lent
returns-in_err-require-2 c =
    let given : Tables =
    lent c.args.atoms c.args.rules.now c.args.literals.now c.args.clauses.now c.args.loads.now c.args.load_literals.now c.args.minutes.now c.args.marks.now in
    let tables-fit : let t = given in check_of t c.args.values.now c.args.levels.now ≡ first_fault (slice_test (claim_slices t c.args.values.now c.args.levels.now) ∷ mark_count_test t ∷ mark_test t ∷ claim_tests t c.args.values.now c.args.levels.now) =
    verdict_leaves _ (table_tests (given)) _ _ (ap first_fault (lent_order (given) _ _)) (c.table_fault.ensures c.args.marks.now) c.in_ok-table_fault.was in
    let levels-many : c.group_count-groups.result * c.args.atoms ≡ group_count c.args.rules.now * c.args.atoms =
    ap (λ (groups : ℕ). groups * c.args.atoms) c.group_count-groups.ensures.0 in
    let other = other_refused _ _ _ _ _ c.require-2.ensures c.in_err-require-2.was c.from_residual-in_err-require-2.ensures.1 in
    other.1 ∙ sym (tables-fit ∙ slice_refuses _ _ _ (Memᴰ.tail (Memᴰ.head refl)) (λ e. other.0 (e ∙ sym levels-many)))

pub returns-in_err-require-3 : goal.returns-in_err-require-3
unfolding check_of check_tests lent
returns-in_err-require-3 c =
    let given : Tables =
    lent c.args.atoms c.args.rules.now c.args.literals.now c.args.clauses.now c.args.loads.now c.args.load_literals.now c.args.minutes.now c.args.marks.now in
    let tables-fit : let t = given in check_of t c.args.values.now c.args.levels.now ≡ first_fault (slice_test (claim_slices t c.args.values.now c.args.levels.now) ∷ mark_count_test t ∷ mark_test t ∷ claim_tests t c.args.values.now c.args.levels.now) =
    verdict_leaves _ (table_tests (given)) _ _ (ap first_fault (lent_order (given) _ _)) (c.table_fault.ensures c.args.marks.now) c.in_ok-table_fault.was in
    let levels-many : c.group_count-groups.result * c.args.atoms ≡ group_count c.args.rules.now * c.args.atoms =
    ap (λ (groups : ℕ). groups * c.args.atoms) c.group_count-groups.ensures.0 in
    let slices_fit : let t = given in check_of t c.args.values.now c.args.levels.now ≡ first_fault (mark_count_test t ∷ mark_test t ∷ claim_tests t c.args.values.now c.args.levels.now) =
    tables-fit ∙ slice_leaves _ _ (sized_more (same_required _ _ _ _ c.require.ensures c.in_ok-require.was) (sized_more (same_required _ _ _ _ c.require-2.ensures c.in_ok-require-2.was ∙ levels-many) sized_none)) in
    let other = other_refused _ _ _ _ _ c.require-3.ensures c.in_err-require-3.was c.from_residual-in_err-require-3.ensures.1 in
    other.1 ∙ sym (slices_fit ∙ marks_refuse _ _ other.0)

pub claim_fault-requires : goal.claim_fault-requires
unfolding lent
claim_fault-requires c =
    let given : Tables =
    lent c.args.atoms c.args.rules.now c.args.literals.now c.args.clauses.now c.args.loads.now c.args.load_literals.now c.args.minutes.now c.args.marks.now in
    let values-many = same_required _ _ _ _ c.require.ensures c.in_ok-require.was in
    let none = accepted_absent (table_tests (given)) (rw (← c.table_fault.ensures c.args.marks.now) c.in_ok-table_fault.was) in
    let ready = claim_ready (given) _ _ _ none values-many c.group_count-groups.ensures.1 (same_required _ _ _ _ c.require-2.ensures c.in_ok-require-2.was) in
    record {
      groups_levelled = ready.0;
      groups_value = c.group_count-groups.ensures.0;
      clauses_scannable = ready.1;
      loads_scannable = ready.2;
      marks_len = same_required _ _ _ _ c.require-3.ensures c.in_ok-require-3.was ∙ sym values-many;
    }

pub returns : goal.returns
unfolding check_of check_tests lent
returns c =
    let given : Tables =
    lent c.args.atoms c.args.rules.now c.args.literals.now c.args.clauses.now c.args.loads.now c.args.load_literals.now c.args.minutes.now c.args.marks.now in
    let tables-fit : let t = given in check_of t c.args.values.now c.args.levels.now ≡ first_fault (slice_test (claim_slices t c.args.values.now c.args.levels.now) ∷ mark_count_test t ∷ mark_test t ∷ claim_tests t c.args.values.now c.args.levels.now) =
    verdict_leaves _ (table_tests (given)) _ _ (ap first_fault (lent_order (given) _ _)) (c.table_fault.ensures c.args.marks.now) c.in_ok-table_fault.was in
    let levels-many : c.group_count-groups.result * c.args.atoms ≡ group_count c.args.rules.now * c.args.atoms =
    ap (λ (groups : ℕ). groups * c.args.atoms) c.group_count-groups.ensures.0 in
    let slices_fit : let t = given in check_of t c.args.values.now c.args.levels.now ≡ first_fault (mark_count_test t ∷ mark_test t ∷ claim_tests t c.args.values.now c.args.levels.now) =
    tables-fit ∙ slice_leaves _ _ (sized_more (same_required _ _ _ _ c.require.ensures c.in_ok-require.was) (sized_more (same_required _ _ _ _ c.require-2.ensures c.in_ok-require-2.was ∙ levels-many) sized_none)) in
    rw (same_required _ _ _ _ c.require.ensures c.in_ok-require.was) at c.claim_fault.ensures ∙ sym (slices_fit ∙ marks_leave _ _ (same_required _ _ _ _ c.require-3.ensures c.in_ok-require-3.was))
