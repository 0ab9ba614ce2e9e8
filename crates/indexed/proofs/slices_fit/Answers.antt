-- `indexed::slices_fit` meets its contract: the tests stand in the list's order.
use mathlib.Core.Bool.{and-true}
use Rattle.std.proofs.Math.Bool.{and_assoc}
use Rattle.wellfounded.specs.Lists.{all}
use Rattle.tables.specs.Sound.{is_sized}
use Rattle.indexed.proofs.slices_fit.Goals as goal

pub returns : goal.returns
unfolding all is_sized
returns c = rw c.lengths_fit.ensures (simp (and-true, and_assoc))
