-- `propagation::counts::lower_rows` meets its contract: before each entry the rows at those before it have been lowered.
use native.Mathlib.Omega.{arith}
use Rattle.propagation.proofs.FallLaws.{rows_start, rows_next, rows_turn}
use Rattle.propagation.proofs.counts.lower_rows.Goals as goal

pub loop-row-init : goal.loop-row-init
loop-row-init c = rows_start c.requires.0 c.requires.1

pub lower-behind-requires : goal.lower-behind-requires
lower-behind-requires c = rows_next c.requires.0 c.requires.1 (omega arith) c.loop-row.invariant

pub loop-row-preserved : goal.loop-row-preserved
loop-row-preserved c = rows_turn c.requires.0 c.requires.1 (omega arith) c.loop-row.invariant c.lower-behind.ensures
