-- `numerals::numbers::digits_from` meets its contract: the digits from `next` on make of the total what all make of the start.
use Prim.Native.Nat.{◌-◌}
use lib.ListN.{length}
use Rattle.numerals.proofs.OffsetLaws.{Digits}
use Rattle.numerals.proofs.numbers.digits_from.Given as goal

abbrev pub invariant-loop-total : goal.invariant-loop-total
invariant-loop-total l = Digits l.text l.at l.value l.next l.total

abbrev pub decreases-loop-total : goal.decreases-loop-total
decreases-loop-total l = length l.text - l.next
