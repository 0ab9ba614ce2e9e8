-- `forms::read_defined_form` meets its contract: the list that is read makes the form, unless it is empty.
use mathlib.Core.Path.{refl}
use Rattle.forms.proofs.DefinedForm.{defined_listless, defined_empty, defined_some}
use Rattle.forms.proofs.read_defined_form.Goals as goal

pub returns-in_err-parts : goal.returns-in_err-parts
returns-in_err-parts c = rw c.from_residual.ensures (defined_listless _ _ _ _ _ c.in_err-parts.ensures refl)

pub returns-then-parts-eq0 : goal.returns-then-parts-eq0
returns-then-parts-eq0 c = defined_empty _ _ _ _ _ c.in_ok-parts.ensures refl c.if-parts-eq0.true

pub returns : goal.returns
returns c = defined_some _ _ _ _ _ c.in_ok-parts.ensures refl c.if-parts-eq0.false
