-- `propagation::counts::lower_rows` meets its contract: before each entry the rows at those before it have been lowered.
use Prim.Native.Nat.{◌+◌}
use Rattle.propagation.specs.internal.Counts.{RowsLowered}
use Rattle.propagation.proofs.counts.lower_rows.Given as goal

abbrev pub invariant-loop-row : goal.invariant-loop-row
invariant-loop-row l = RowsLowered l.rules l.entries l.initial.counts l.initial.values l.initial.queue l.end l.first (l.first + l.row-index) l.counts l.values l.queue l.behind
