-- `forms::read_open_form` meets its contract: the list that is read makes the form.
use mathlib.Core.Path.{refl}
use Rattle.forms.proofs.OpenForm.{open_none, open_some}
use Rattle.forms.proofs.read_open_form.Goals as goal

pub returns-in_err-parts : goal.returns-in_err-parts
returns-in_err-parts c = rw c.from_residual.ensures (open_none _ _ _ _ _ c.in_err-parts.ensures refl)

pub returns : goal.returns
returns c = open_some _ _ _ _ _ c.in_ok-parts.ensures refl
