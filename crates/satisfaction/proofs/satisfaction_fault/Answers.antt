-- `satisfaction::satisfaction_fault` meets its contract: the clauses decide, or leave the verdict to the load lines.
use mathlib.Core.Path.{refl, sym, ◌∙◌}
use Rattle.satisfaction.specs.Satisfied.{clause_test, load_test}
use Rattle.tables.proofs.Faults.{absent_alone, passed_leaves, refusal_decides}
use Rattle.satisfaction.proofs.satisfaction_fault.Goals as goal

pub returns-in_err-absent : goal.returns-in_err-absent
unfolding clause_test
returns-in_err-absent c = refusal_decides _ _ _ _ refl (absent_alone _ _ _ c.absent.ensures c.failing_clause.ensures) _ c.in_err-absent.was c.from_residual.ensures.1

pub returns : goal.returns
unfolding clause_test load_test
returns c =
    absent_alone _ _ _ c.absent-2.ensures c.failing_load.ensures
    ∙ sym (passed_leaves _ _ _ _ refl (absent_alone _ _ _ c.absent.ensures c.failing_clause.ensures) c.in_ok-absent.was)
