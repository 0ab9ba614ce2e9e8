-- `advancing::unfounded::decide_unfounded` meets its contract: before each atom the unfounded ones below it have been made false and queued.
use native.Mathlib.Omega.{arith}
use Rattle.advancing.proofs.NotingLaws.{unfounded_start, unfounded_turn, unfounded_end}
use Rattle.advancing.proofs.unfounded.decide_unfounded.Goals as goal

pub loop-atom-init : goal.loop-atom-init
loop-atom-init c = unfounded_start c.requires

pub loop-atom-preserved : goal.loop-atom-preserved
loop-atom-preserved c = unfounded_turn c.requires (omega arith) c.loop-atom.invariant c.decide_if_unfounded-behind.ensures

pub returns : goal.returns
returns c = unfounded_end (omega arith) c.loop-atom.invariant
