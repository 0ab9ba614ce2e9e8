-- `advancing::founded::found_waves` meets its contract: at the loop's head a wave stands in the queue from `from` on.
use Prim.Native.Nat.{◌-◌}
use lib.ListN.{length}
use Rattle.advancing.proofs.WaveLaws.{Waving}
use Rattle.advancing.proofs.founded.found_waves.Given as goal

abbrev pub invariant-loop-from : goal.invariant-loop-from
invariant-loop-from l = Waving l.end l.rules l.starts l.entries l.initial.counts l.initial.marks l.initial.queue l.from l.behind l.counts l.marks l.queue

abbrev pub decreases-loop-from : goal.decreases-loop-from
decreases-loop-from l = length l.queue - l.from
