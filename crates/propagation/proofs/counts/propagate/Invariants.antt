-- `propagation::counts::propagate` meets its contract: before each atom of the part those before it have been propagated.
use Rattle.propagation.specs.internal.Counts.{PartPropagated}
use Rattle.propagation.proofs.counts.propagate.Given as goal

abbrev pub invariant-loop-i : goal.invariant-loop-i
invariant-loop-i l = PartPropagated l.rules l.starts l.entries l.initial.counts l.initial.values l.initial.queue l.from l.i l.end l.counts l.values l.queue l.behind
