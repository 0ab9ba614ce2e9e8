-- `wellfounded::is_negated` meets its contract: the remainder's test is the definition itself.
use mathlib.Core.Path.{refl}
use Rattle.wellfounded.specs.Literals.{is_negated}
use Rattle.wellfounded.proofs.is_negated.Goals as goal

pub returns : goal.returns
unfolding is_negated
returns c = refl
