-- `propagation::lacking::count_row` meets its contract: the body's sum is the count, and at 0 the head is decided.
use Rattle.propagation.proofs.LackingLaws.{row_lacks, row_lacking, row_ready}
use Rattle.propagation.proofs.lacking.count_row.Goals as goal

pub returns-then-lacks-ne0 : goal.returns-then-lacks-ne0
returns-then-lacks-ne0 c = row_lacking c.requires.1 c.requires.0 c.rule_start-start.ensures c.rule_size-size.ensures (row_lacks c.requires.1 c.requires.0 c.rule_start-start.ensures c.rule_size-size.ensures c.body_lacks-lacks.ensures) c.if-lacks-ne0.true

pub returns : goal.returns
returns c = row_ready c.requires.1 c.requires.0 c.rule_start-start.ensures c.rule_size-size.ensures (row_lacks c.requires.1 c.requires.0 c.rule_start-start.ensures c.rule_size-size.ensures c.body_lacks-lacks.ensures) c.if-lacks-ne0.false (rw c.rule_head-head.ensures.is at c.push.ensures)
