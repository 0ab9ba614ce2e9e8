-- `founding::found_pass` meets its contract: the marks are those that the rows passed make of the entry's, and so many are new.
use Rattle.founding.proofs.FoundingLaws.{PassedTo}
use Rattle.founding.proofs.found_pass.Given as goal

abbrev pub invariant-loop-row : goal.invariant-loop-row
invariant-loop-row l = PassedTo l.rules l.literals l.values l.initial.founded l.row l.founded l.marked
