-- `satisfaction::loads::round_tenth` meets its contract: its one line is the definition.
use mathlib.Core.Path.{refl}
use Rattle.satisfaction.specs.Tenths.{round_tenth}
use Rattle.satisfaction.proofs.loads.round_tenth.Goals as goal

pub returns : goal.returns
unfolding round_tenth
returns c = refl
