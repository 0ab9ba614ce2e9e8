-- `judging::reached::start` meets its contract: all counts are 0.
use mathlib.Core.Path.{refl}
use Rattle.judging.specs.States.{start}
use Rattle.judging.proofs.reached.start.Goals as goal

pub returns : goal.returns
unfolding start
returns c = refl
