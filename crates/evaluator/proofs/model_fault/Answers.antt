-- `evaluator::model_fault` meets its contract: a search that finds nothing leaves the verdict to the tests after it.
use mathlib.Core.Path.{refl, sym, ◌∙◌}
use Rattle.tables.proofs.Faults.{absent_alone, passed_leaves, refusal_decides}
use Rattle.evaluator.specs.Evaluate.{undecided_test}
use Rattle.evaluator.proofs.model_fault.Goals as goal

pub returns-in_err-absent : goal.returns-in_err-absent
unfolding undecided_test
returns-in_err-absent c = refusal_decides _ _ _ _ refl (absent_alone _ _ _ c.absent.ensures c.not_held_atom.ensures) _ c.in_err-absent.was c.from_residual.ensures.1

pub returns : goal.returns
unfolding undecided_test
returns c =
    c.satisfaction_fault.ensures
    ∙ sym (passed_leaves _ _ _ _ refl (absent_alone _ _ _ c.absent.ensures c.not_held_atom.ensures) c.in_ok-absent.was)
