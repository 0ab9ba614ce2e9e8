-- `outcome::evaluate_book` meets its contract: the evaluation is made at the fronts of the values and levels.
use mathlib.Core.Path.{sym, ◌∙◌}
use mathlib.Core.Bool.{true, false}
use native.Mathlib.Nat.{sub-zero}
use Rattle.tables.specs.Sound.{lent}
use Rattle.outcome.proofs.OutcomeLaws.{evaluation_comes}
use Rattle.outcome.proofs.evaluate_book.Goals as goal

pub returns-then-is_made : goal.returns-then-is_made
unfolding lent
returns-then-is_made c = evaluation_comes _ _ _ _ _ _ true _ _ c.requires.fits_arrays.few c.requires.hold_every_atom (sym c.if-is_made.true ∙ c.is_made.ensures) _ (sub-zero _) c.evaluate_inside-answer.ensures

pub returns-else-is_made : goal.returns-else-is_made
unfolding lent
returns-else-is_made c = evaluation_comes _ _ _ _ _ _ false _ _ c.requires.fits_arrays.few c.requires.hold_every_atom (sym c.if-is_made.false ∙ c.is_made.ensures) _ (sub-zero _) c.evaluate_inside-answer.ensures
