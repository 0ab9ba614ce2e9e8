-- `checker::claim_fault` meets its contract: what finds no fault leaves the verdict to the tests after it.
use mathlib.Core.Path.{◌≡◌, refl, sym, ◌∙◌}
use mathlib.Core.List.{◌++◌, ◌∷◌}
use lib.ListN.{length}
use Rattle.tables.specs.Faults.{first_fault}
use Rattle.tables.specs.Rows.{group_count}
use Rattle.tables.specs.Sound.{lent, group_of, mark_test}
use Rattle.satisfaction.specs.Satisfied.{satisfaction_tests}
use Rattle.tables.proofs.Faults.{absent_alone, passed_leaves, refusal_decides, first_refuse, verdict_leaves}
use Rattle.checker.specs.Check.{value_test, level_tests, claim_tests}
use Rattle.checker.proofs.claim_fault.Goals as goal

pub returns-in_err-absent : goal.returns-in_err-absent
unfolding lent mark_test
returns-in_err-absent c =
    refusal_decides _ _ _ _ refl (absent_alone _ _ _ c.absent.ensures (rw c.requires.marks_len at c.not_held_atom.ensures)) _ c.in_err-absent.was c.from_residual.ensures.1

pub returns-in_err-absent-2 : goal.returns-in_err-absent-2
unfolding claim_tests lent mark_test value_test
returns-in_err-absent-2 c =
    let a = c.args in
    let given = lent (length a.values.now) a.rules.now a.literals.now a.clauses.now a.loads.now a.load_literals.now a.minutes.now a.marks.now in
    let marks_fit : let tests = claim_tests given a.values.now a.levels.now in first_fault (mark_test given ∷ tests) ≡ first_fault tests =
    passed_leaves _ _ _ _ refl (absent_alone _ _ _ c.absent.ensures (rw c.requires.marks_len at c.not_held_atom.ensures)) c.in_ok-absent.was in
    refusal_decides _ _ _ _ marks_fit (absent_alone _ _ _ c.absent-2.ensures c.not_held_atom-2.ensures) _ c.in_err-absent-2.was c.from_residual-in_err-absent-2.ensures.1

pub returns-in_err-group_fault : goal.returns-in_err-group_fault
unfolding claim_tests group_of lent mark_test value_test
returns-in_err-group_fault c =
    let a = c.args in
    let given = lent (length a.values.now) a.rules.now a.literals.now a.clauses.now a.loads.now a.load_literals.now a.minutes.now a.marks.now in
    let marks_fit : let tests = claim_tests given a.values.now a.levels.now in first_fault (mark_test given ∷ tests) ≡ first_fault tests =
    passed_leaves _ _ _ _ refl (absent_alone _ _ _ c.absent.ensures (rw c.requires.marks_len at c.not_held_atom.ensures)) c.in_ok-absent.was in
    let values-fit : first_fault (mark_test given ∷ claim_tests given a.values.now a.levels.now) ≡ first_fault (level_tests (group_of given) given.atoms (group_count given.rules) a.rules.now a.literals.now a.values.now a.levels.now ++ satisfaction_tests given a.values.now) =
    passed_leaves _ _ _ _ marks_fit (absent_alone _ _ _ c.absent-2.ensures c.not_held_atom-2.ensures) c.in_ok-absent-2.was in
    first_refuse _ _ _ _ _ values-fit (rw c.requires.groups_value at c.group_fault.ensures) c.in_err-group_fault.was c.from_residual-in_err-group_fault.ensures.1

pub returns : goal.returns
unfolding claim_tests group_of lent mark_test satisfaction_tests value_test
returns c =
    let a = c.args in
    let given = lent (length a.values.now) a.rules.now a.literals.now a.clauses.now a.loads.now a.load_literals.now a.minutes.now a.marks.now in
    let marks_fit : let tests = claim_tests given a.values.now a.levels.now in first_fault (mark_test given ∷ tests) ≡ first_fault tests =
    passed_leaves _ _ _ _ refl (absent_alone _ _ _ c.absent.ensures (rw c.requires.marks_len at c.not_held_atom.ensures)) c.in_ok-absent.was in
    let values-fit : first_fault (mark_test given ∷ claim_tests given a.values.now a.levels.now) ≡ first_fault (level_tests (group_of given) given.atoms (group_count given.rules) a.rules.now a.literals.now a.values.now a.levels.now ++ satisfaction_tests given a.values.now) =
    passed_leaves _ _ _ _ marks_fit (absent_alone _ _ _ c.absent-2.ensures c.not_held_atom-2.ensures) c.in_ok-absent-2.was in
    c.satisfaction_fault.ensures
    ∙ sym (verdict_leaves _ _ _ _ values-fit (rw c.requires.groups_value at c.group_fault.ensures) c.in_ok-group_fault.was)
