-- `propagation::lacking::count_lacks` meets its contract: the rows passed are counted, and their heads decided.
use Rattle.propagation.proofs.LackingLaws.{CountedBelow}
use Rattle.propagation.proofs.lacking.count_lacks.Given as goal

abbrev pub invariant-loop-row : goal.invariant-loop-row
invariant-loop-row l = CountedBelow l.rules l.literals l.table l.initial.counts l.initial.values l.initial.queue l.row l.counts l.values l.queue l.end
