-- `lists::read_literals` meets its contract: the literals read so far are counted, tested and stored.
use Prim.Native.Nat.{◌-◌}
use mathlib.Core.Bool.{true}
use lib.ListN.{length}
use Rattle.format.specs.Parse.{read_literal}
use Rattle.judging.specs.Judging.{literal_within}
use Rattle.lists.proofs.ListLaws.{LaidLiterals, PartsRead}
use Rattle.lists.proofs.read_literals.Given as goal

abbrev pub invariant-loop-next : goal.invariant-loop-next
invariant-loop-next l = PartsRead read_literal literal_within (λ ls. true) l.text l.at l.next l.count l.within true (LaidLiterals l.initial.literals l.from l.literals)

abbrev pub decreases-loop-next : goal.decreases-loop-next
decreases-loop-next l = length l.text - l.next
