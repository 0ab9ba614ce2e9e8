-- `tables::sizes::table_fault` meets its contract: each test that is passed leaves the verdict to the tests after it.
use Prim.Native.Nat.{ℕ}
use mathlib.Core.Path.{◌≡◌, refl, sym, ap, ◌∙◌}
use mathlib.Core.Bool.{cond}
use mathlib.Core.List.{List}
use lib.ListN.{drop}
use Rattle.tables.specs.declared.Fault.TheVariants.{TableSizes}
use Rattle.tables.specs.Faults.{Test, first_fault, accepted, refused}
use Rattle.tables.specs.Sound.{lent, table_tests}
use Rattle.tables.proofs.RowFaults.{sizes_paired}
use Rattle.tables.proofs.Faults.{absent_alone, require_alone, passed_leaves, refusal_decides, required_held}
use Rattle.tables.proofs.sizes.table_fault.Goals as goal

-- The verdict is left to the tests from k on.
abbrev From : ℕ → List Test → Type 0
From k tests = first_fault tests ≡ first_fault (drop k tests)

pub returns-in_err-require : goal.returns-in_err-require
unfolding lent table_tests
returns-in_err-require c = λ marks. refusal_decides _ _ _ _ refl (require_alone _ _ _ (c.require.ensures ∙ ap (λ fit. cond fit accepted (refused TableSizes 0)) c.sizes_fit-fit.ensures)) _ c.in_err-require.was c.from_residual.ensures.1

pub bad_term-requires : goal.bad_term-requires
bad_term-requires c = sizes_paired _ _ _ _ _ _ _ _ c.sizes_fit-fit.ensures (required_held _ _ _ c.require.ensures c.in_ok-require.was)

pub returns-in_err-absent : goal.returns-in_err-absent
unfolding lent table_tests
returns-in_err-absent c = λ marks. let a = c.args in
    let tests = table_tests (lent a.atoms a.rules.now a.literals.now a.clauses.now a.loads.now a.load_literals.now a.minutes.now marks) in
    let from_1 : From 1 tests = passed_leaves _ _ _ _ refl (require_alone _ _ _ (c.require.ensures ∙ ap (λ fit. cond fit accepted (refused TableSizes 0)) c.sizes_fit-fit.ensures)) c.in_ok-require.was in
    refusal_decides _ _ _ _ from_1 (absent_alone _ _ _ c.absent.ensures c.bad_rule_row.ensures) _ c.in_err-absent.was c.from_residual-in_err-absent.ensures.1

pub returns-in_err-absent-2 : goal.returns-in_err-absent-2
unfolding lent table_tests
returns-in_err-absent-2 c = λ marks. let a = c.args in
    let tests = table_tests (lent a.atoms a.rules.now a.literals.now a.clauses.now a.loads.now a.load_literals.now a.minutes.now marks) in
    let from_1 : From 1 tests = passed_leaves _ _ _ _ refl (require_alone _ _ _ (c.require.ensures ∙ ap (λ fit. cond fit accepted (refused TableSizes 0)) c.sizes_fit-fit.ensures)) c.in_ok-require.was in
    let from_2 : From 2 tests = passed_leaves _ _ _ _ from_1 (absent_alone _ _ _ c.absent.ensures c.bad_rule_row.ensures) c.in_ok-absent.was in
    refusal_decides _ _ _ _ from_2 (absent_alone _ _ _ c.absent-2.ensures c.bad_clause_row.ensures) _ c.in_err-absent-2.was c.from_residual-in_err-absent-2.ensures.1

pub returns-in_err-absent-3 : goal.returns-in_err-absent-3
unfolding lent table_tests
returns-in_err-absent-3 c = λ marks. let a = c.args in
    let tests = table_tests (lent a.atoms a.rules.now a.literals.now a.clauses.now a.loads.now a.load_literals.now a.minutes.now marks) in
    let from_1 : From 1 tests = passed_leaves _ _ _ _ refl (require_alone _ _ _ (c.require.ensures ∙ ap (λ fit. cond fit accepted (refused TableSizes 0)) c.sizes_fit-fit.ensures)) c.in_ok-require.was in
    let from_2 : From 2 tests = passed_leaves _ _ _ _ from_1 (absent_alone _ _ _ c.absent.ensures c.bad_rule_row.ensures) c.in_ok-absent.was in
    let from_3 : From 3 tests = passed_leaves _ _ _ _ from_2 (absent_alone _ _ _ c.absent-2.ensures c.bad_clause_row.ensures) c.in_ok-absent-2.was in
    refusal_decides _ _ _ _ from_3 (absent_alone _ _ _ c.absent-3.ensures c.bad_load_row.ensures) _ c.in_err-absent-3.was c.from_residual-in_err-absent-3.ensures.1

pub returns-in_err-absent-4 : goal.returns-in_err-absent-4
unfolding lent table_tests
returns-in_err-absent-4 c = λ marks. let a = c.args in
    let tests = table_tests (lent a.atoms a.rules.now a.literals.now a.clauses.now a.loads.now a.load_literals.now a.minutes.now marks) in
    let from_1 : From 1 tests = passed_leaves _ _ _ _ refl (require_alone _ _ _ (c.require.ensures ∙ ap (λ fit. cond fit accepted (refused TableSizes 0)) c.sizes_fit-fit.ensures)) c.in_ok-require.was in
    let from_2 : From 2 tests = passed_leaves _ _ _ _ from_1 (absent_alone _ _ _ c.absent.ensures c.bad_rule_row.ensures) c.in_ok-absent.was in
    let from_3 : From 3 tests = passed_leaves _ _ _ _ from_2 (absent_alone _ _ _ c.absent-2.ensures c.bad_clause_row.ensures) c.in_ok-absent-2.was in
    let from_4 : From 4 tests = passed_leaves _ _ _ _ from_3 (absent_alone _ _ _ c.absent-3.ensures c.bad_load_row.ensures) c.in_ok-absent-3.was in
    refusal_decides _ _ _ _ from_4 (absent_alone _ _ _ c.absent-4.ensures c.bad_literal.ensures) _ c.in_err-absent-4.was c.from_residual-in_err-absent-4.ensures.1

pub returns : goal.returns
unfolding lent table_tests
returns c = λ marks. let a = c.args in
    let tests = table_tests (lent a.atoms a.rules.now a.literals.now a.clauses.now a.loads.now a.load_literals.now a.minutes.now marks) in
    let from_1 : From 1 tests = passed_leaves _ _ _ _ refl (require_alone _ _ _ (c.require.ensures ∙ ap (λ fit. cond fit accepted (refused TableSizes 0)) c.sizes_fit-fit.ensures)) c.in_ok-require.was in
    let from_2 : From 2 tests = passed_leaves _ _ _ _ from_1 (absent_alone _ _ _ c.absent.ensures c.bad_rule_row.ensures) c.in_ok-absent.was in
    let from_3 : From 3 tests = passed_leaves _ _ _ _ from_2 (absent_alone _ _ _ c.absent-2.ensures c.bad_clause_row.ensures) c.in_ok-absent-2.was in
    let from_4 : From 4 tests = passed_leaves _ _ _ _ from_3 (absent_alone _ _ _ c.absent-3.ensures c.bad_load_row.ensures) c.in_ok-absent-3.was in
    let from_5 : From 5 tests = passed_leaves _ _ _ _ from_4 (absent_alone _ _ _ c.absent-4.ensures c.bad_literal.ensures) c.in_ok-absent-4.was in
    absent_alone _ _ _ c.absent-5.ensures c.bad_term.ensures ∙ sym from_5
