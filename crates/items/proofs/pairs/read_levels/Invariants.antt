-- `items::pairs::read_levels` meets its contract: the levels read so far are counted and tested, and the rest are read where the loop has come to.
use Prim.Native.Nat.{◌-◌}
use lib.ListN.{length}
use Rattle.items.proofs.LevelLaws.{LevelsCame}
use Rattle.items.proofs.pairs.read_levels.Given as goal

abbrev pub invariant-loop-next : goal.invariant-loop-next
invariant-loop-next l = LevelsCame l.text l.at l.wanted l.next l.count l.within l.found

abbrev pub decreases-loop-next : goal.decreases-loop-next
decreases-loop-next l = length l.text - l.next
