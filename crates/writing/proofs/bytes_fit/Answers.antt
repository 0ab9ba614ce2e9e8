-- `writing::bytes_fit` meets its contract: its tests are those of the definition.
use mathlib.Core.Path.{refl}
use Rattle.writing.specs.Writing.{bytes_fit}
use Rattle.writing.proofs.bytes_fit.Goals as goal

pub returns : goal.returns
unfolding bytes_fit
returns c = refl
