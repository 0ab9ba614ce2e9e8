-- `printing::put_digits` meets its contract: the digits still to be put make of the buffer what all make of the buffer before.
use Prim.Native.Nat.{◌+◌, ◌-◌, ◌≤◌}
use Rattle.printing.proofs.DecimalLaws.{Writing}
use Rattle.printing.proofs.put_digits.Given as goal

abbrev pub invariant-loop-place : goal.invariant-loop-place
invariant-loop-place g l = (1 ≤ l.place) × Writing l.initial.buffer l.at l.number (l.at + (l.place - 1)) l.rest l.buffer
