-- `tables::groups::group_count` meets its contract: `high` is the highest group of the rows passed.
use native.Mathlib.Omega.{arith}
use Rattle.tables.proofs.GroupLaws.{highest_start, highest_turn, highest_end}
use Rattle.tables.proofs.groups.group_count.Goals as goal

pub loop-row-init : goal.loop-row-init
loop-row-init c = highest_start

pub loop-row-preserved : goal.loop-row-preserved
loop-row-preserved c = rw c.max-high.ensures (highest_turn (omega arith) c.rule_group.ensures c.loop-row.invariant)

pub overflow_add-result : goal.overflow_add-result
overflow_add-result c = omega (arith, c.loop-row.invariant.small)

pub returns : goal.returns
returns c = highest_end _ c.rule_count-row-end.ensures (omega arith) c.loop-row.invariant
