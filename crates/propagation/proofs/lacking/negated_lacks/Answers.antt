-- `propagation::lacking::negated_lacks` meets its contract: each of its tests is that of the definition.
use Rattle.wellfounded.proofs.Literals.{true_test, false_test}
use Rattle.propagation.proofs.LackingLaws.{as_number}
use Rattle.propagation.proofs.lacking.negated_lacks.Goals as goal
use Rattle.propagation.proofs.lacking.negated_lacks.Goals.{then-founding, else-founding}

pub returns : goal.returns
returns c =
    elim c.if-founding.branch [
      | then-founding w ↦ rw (w.result-is, w.if-founding.true, true_test c.args.value) (as_number _)
      | else-founding w ↦ rw (w.result-is, w.if-founding.false, false_test c.args.value) (as_number _)
    ]
