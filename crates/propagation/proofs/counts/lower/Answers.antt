-- `propagation::counts::lower` meets its contract: a row that still lacks something leaves the values alone, another has its head decided.
use Rattle.propagation.proofs.CountLaws.{lowered_some, lowered_fits, lowered_none}
use Rattle.propagation.proofs.counts.lower.Goals as goal

pub returns-then-left-ne0 : goal.returns-then-left-ne0
returns-then-left-ne0 c = lowered_some c.requires.0 c.requires.1 c.requires.2 c.if-left-ne0.true

pub push-requires : goal.push-requires
push-requires c = rw c.rule_head-head.ensures.is (lowered_fits c.requires.0 c.requires.1 c.requires.2)

pub returns : goal.returns
returns c = lowered_none c.requires.0 c.requires.1 c.requires.2 c.if-left-ne0.false (rw c.rule_head-head.ensures.is at c.push.ensures)
