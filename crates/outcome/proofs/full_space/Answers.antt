-- `outcome::full_space` meets its contract: the sizes are those of the definition.
use mathlib.Core.Path.{refl}
use Rattle.judging.specs.LentTables.{space_with, full_size}
use Rattle.outcome.specs.Outcomes.{full_space}
use Rattle.outcome.proofs.full_space.Goals as goal

pub returns : goal.returns
unfolding full_size full_space space_with
returns c = refl
