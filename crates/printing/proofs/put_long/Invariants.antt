-- `printing::put_long` meets its contract: the digits still to be put make of the buffer what all make of the buffer before.
use Rattle.printing.proofs.DecimalLaws.{Writing}
use Rattle.printing.proofs.put_long.Given as goal

abbrev pub invariant-loop-rest : goal.invariant-loop-rest
invariant-loop-rest l = Writing l.initial.buffer l.at l.number l.place l.rest l.buffer

abbrev pub decreases-loop-rest : goal.decreases-loop-rest
decreases-loop-rest l = l.rest
