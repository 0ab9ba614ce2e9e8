-- `propagation::lacking::lack_literals` meets its contract: the table tells of the literals of the atoms passed.
use Rattle.propagation.proofs.LackingLaws.{TellsBelow}
use Rattle.propagation.proofs.lacking.lack_literals.Given as goal

abbrev pub invariant-loop-atom : goal.invariant-loop-atom
invariant-loop-atom l = TellsBelow l.founding l.values l.initial.table l.atom l.table
