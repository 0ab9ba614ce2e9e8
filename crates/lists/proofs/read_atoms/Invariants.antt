-- `lists::read_atoms` meets its contract: the atoms read so far are marked, counted and tested, and the rest is read where the loop has come to.
use Prim.Native.Nat.{◌-◌}
use lib.ListN.{length}
use Rattle.lists.proofs.AtomLaws.{Marking}
use Rattle.lists.proofs.read_atoms.Given as goal

abbrev pub invariant-loop-next : goal.invariant-loop-next
invariant-loop-next l = Marking l.text l.at l.bound l.initial.table l.next l.count l.within l.rising l.floor l.table

abbrev pub decreases-loop-next : goal.decreases-loop-next
decreases-loop-next l = length l.text - l.next
