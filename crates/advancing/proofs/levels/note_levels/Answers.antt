-- `advancing::levels::note_levels` meets its contract: before each atom of the part those before it have their level.
use Prim.Native.Nat.{◌+◌}
use mathlib.Core.Path.{◌≡◌}
use native.Mathlib.Omega.{arith}
use Rattle.advancing.proofs.NotingLaws.{queued_at, noted_turn}
use Rattle.advancing.proofs.levels.note_levels.Goals as goal

pub loop-atom-preserved : goal.loop-atom-preserved
loop-atom-preserved c =
    let at = queued_at c.args.queue.now c.args.from c.args.end c.loop-atom.atom-index (omega arith) in
    let next : c.args.from + (c.loop-atom.atom-index + 1) ≡ c.args.from + c.loop-atom.atom-index + 1 = omega arith in
    rw (at, next) (noted_turn c.requires _ (omega arith) (omega arith) c.loop-atom.invariant (rw at at c.renews-due.ensures))
