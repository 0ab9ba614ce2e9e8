-- `advancing::founded::found_waves` meets its contract: at the loop's head a wave stands in the queue from `from` on.
use native.Mathlib.Omega.{arith}
use Rattle.advancing.proofs.WaveLaws.{waving_start, waving_turn, wave_next, wave_room, wave_end}
use Rattle.advancing.proofs.founded.found_waves.Goals as goal

pub loop-from-init : goal.loop-from-init
loop-from-init c = waving_start

pub propagate-next-requires : goal.propagate-next-requires
propagate-next-requires c = wave_next c.requires.4.lends (c.loop-from.invariant.at c.requires.0 c.requires.1 c.requires.2 c.requires.3 c.requires.4)

pub loop-from-smaller : goal.loop-from-smaller
loop-from-smaller c = let room = wave_room c.requires.4.lends (c.loop-from.invariant.at c.requires.0 c.requires.1 c.requires.2 c.requires.3 c.requires.4) in
    omega (arith, room, c.loop-from-test.true, c.propagate-next.ensures.done.queued.long)

pub loop-from-preserved : goal.loop-from-preserved
loop-from-preserved c = waving_turn c.loop-from.invariant c.propagate-next.ensures

pub shape_of-counts : goal.shape_of-counts
shape_of-counts c = c.loop-from.invariant.counts_same

pub shape_of-marks : goal.shape_of-marks
shape_of-marks c = c.loop-from.invariant.marks_same

pub shape_of-queue : goal.shape_of-queue
shape_of-queue c = c.loop-from.invariant.queue_same

pub returns : goal.returns
returns c = λ d literals setting k ready. wave_end ready.lends (c.loop-from.invariant.at d literals setting k ready) c.loop-from-test.false
