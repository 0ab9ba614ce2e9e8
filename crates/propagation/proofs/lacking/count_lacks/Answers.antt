-- `propagation::lacking::count_lacks` meets its contract: the rows passed are counted, and their heads decided.
use native.Mathlib.Omega.{arith}
use Rattle.propagation.proofs.LackingLaws.{counted_start, counted_turn, counted_end}
use Rattle.propagation.proofs.lacking.count_lacks.Goals as goal

pub loop-row-init : goal.loop-row-init
loop-row-init c = counted_start

pub loop-row-preserved : goal.loop-row-preserved
loop-row-preserved c = counted_turn c.requires c.loop-row.invariant (omega arith) c.count_row-end.ensures

pub returns : goal.returns
returns c = counted_end (omega arith) c.loop-row.invariant
