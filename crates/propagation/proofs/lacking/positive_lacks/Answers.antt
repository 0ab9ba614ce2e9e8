-- `propagation::lacking::positive_lacks` meets its contract: its test is that of the definition.
use Rattle.wellfounded.proofs.Literals.{true_test}
use Rattle.propagation.proofs.LackingLaws.{as_number}
use Rattle.propagation.proofs.lacking.positive_lacks.Goals as goal

pub returns : goal.returns
returns c = rw (true_test c.args.value) (as_number _)
