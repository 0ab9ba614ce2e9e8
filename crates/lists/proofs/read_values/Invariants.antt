-- `lists::read_values` meets its contract: the pairs read so far are tested and stored, and the rest are read where the loop has come to.
use Prim.Native.Nat.{◌-◌}
use lib.ListN.{length}
use Rattle.lists.proofs.PairLaws.{ValuesCame}
use Rattle.lists.proofs.read_values.Given as goal

abbrev pub invariant-loop-next : goal.invariant-loop-next
invariant-loop-next l = ValuesCame l.text l.at l.groups l.initial.values l.initial.levels l.values l.levels l.next l.count l.within l.levelled

abbrev pub decreases-loop-next : goal.decreases-loop-next
decreases-loop-next l = length l.text - l.next
