-- `writing::each::each_length` meets its contract: the parts passed are in the total.
use Rattle.writing.proofs.LengthLaws.{adding_start, adding_turn}
use Rattle.writing.proofs.each.each_length.Goals as goal

pub loop-place-init : goal.loop-place-init
loop-place-init g c = adding_start _ _

pub loop-place-preserved : goal.loop-place-preserved
loop-place-preserved g c = adding_turn _ _ _ _ _ c.length-total.ensures c.loop-place.invariant
