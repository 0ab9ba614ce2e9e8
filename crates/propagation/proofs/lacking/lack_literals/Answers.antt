-- `propagation::lacking::lack_literals` meets its contract: the table tells of the literals of the atoms passed.
use Rattle.propagation.proofs.LackingLaws.{tells_turn}
use Rattle.propagation.proofs.lacking.lack_literals.Goals as goal

pub loop-atom-preserved : goal.loop-atom-preserved
loop-atom-preserved c = tells_turn _ _ c.requires c.loop-atom-test.true c.loop-atom.invariant c.positive_lacks.ensures c.negated_lacks.ensures
