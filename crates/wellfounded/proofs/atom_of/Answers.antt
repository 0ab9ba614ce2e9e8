-- `wellfounded::atom_of` meets its contract: the quotient is the definition itself.
use mathlib.Core.Path.{refl}
use Rattle.wellfounded.specs.Literals.{atom_of}
use Rattle.wellfounded.proofs.atom_of.Goals as goal

pub returns : goal.returns
unfolding atom_of
returns c = refl
