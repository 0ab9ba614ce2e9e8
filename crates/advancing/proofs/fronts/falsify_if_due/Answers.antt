-- `advancing::fronts::falsify_if_due` meets its contract.
use Rattle.advancing.proofs.FrontLaws.{falsified_none, falsified_some}
use Rattle.advancing.proofs.fronts.falsify_if_due.Goals as goal

pub returns-then-not-due : goal.returns-then-not-due
returns-then-not-due c = falsified_none _ _ _ _ (c.if-not-due.true)

pub returns : goal.returns
returns c = falsified_some (c.if-not-due.false) c.decide_unfounded.ensures
