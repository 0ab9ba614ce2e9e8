-- `tables::sizes::sizes_fit` meets its contract: its tests are those of the definition.
use mathlib.Core.Path.{refl}
use Rattle.tables.specs.Sound.{sizes_fit}
use Rattle.tables.proofs.sizes.sizes_fit.Goals as goal

pub returns : goal.returns
unfolding sizes_fit
returns c = refl
