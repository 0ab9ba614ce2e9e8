-- `guarantees::evaluate_and_check` meets its contract: the two calls' contracts, and the theorems on their definitions.
use Rattle.guarantees.proofs.Theorems.{made_and_checked}
use Rattle.guarantees.proofs.evaluate_and_check.Goals as goal

pub returns : goal.returns
returns c = made_and_checked _ _ _ _ _ _ _ _ _ _ _ c.evaluate-answer.ensures c.check-checked.ensures
