-- `writing::each::put_each` meets its contract: the parts passed are in the text.
use Rattle.printing.proofs.Joining.{joined_start, joined_more, joined_fits}
use Rattle.writing.proofs.each.put_each.Goals as goal

pub loop-place-init : goal.loop-place-init
loop-place-init g c = joined_start _ _ _

pub put-next-requires-clause-room : goal.put-next-requires-clause-room
put-next-requires-clause-room g c = joined_fits _ _ _ _ _ _ _ c.loop-place-test.true c.requires.room c.loop-place.invariant

pub loop-place-preserved : goal.loop-place-preserved
loop-place-preserved g c = joined_more _ _ c.loop-place.invariant c.put-next.ensures
