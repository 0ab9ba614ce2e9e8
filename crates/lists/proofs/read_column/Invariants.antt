-- `lists::read_column` meets its contract: the levels of the pairs read so far are stored, and the rest are read where the loop has come to.
use Prim.Native.Nat.{◌-◌}
use lib.ListN.{length}
use Rattle.lists.proofs.PairLaws.{ColumnCame}
use Rattle.lists.proofs.read_column.Given as goal

abbrev pub invariant-loop-next : goal.invariant-loop-next
invariant-loop-next l = ColumnCame l.text l.at l.group l.initial.levels l.from l.levels l.next l.count

abbrev pub decreases-loop-next : goal.decreases-loop-next
decreases-loop-next l = length l.text - l.next
