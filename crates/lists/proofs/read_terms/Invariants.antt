-- `lists::read_terms` meets its contract: the terms read so far are stored, and the rest are read where the loop has come to.
use Prim.Native.Nat.{◌-◌}
use lib.ListN.{length}
use Rattle.lists.proofs.TermLaws.{TermsCame}
use Rattle.lists.proofs.read_terms.Given as goal

abbrev pub invariant-loop-next : goal.invariant-loop-next
invariant-loop-next l = TermsCame l.text l.at l.initial.load_literals l.initial.minutes l.from l.load_literals l.minutes l.next l.count l.within

abbrev pub decreases-loop-next : goal.decreases-loop-next
decreases-loop-next l = length l.text - l.next
