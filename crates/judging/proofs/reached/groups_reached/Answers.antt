-- `judging::reached::groups_reached` meets its contract.
use borrow.Author.Rules.{rules}
use Rattle.judging.specs.States.{groups_reached}
use Rattle.judging.proofs.reached.groups_reached.Goals as goal

pub returns : goal.returns
unfolding groups_reached
returns c = search rules
