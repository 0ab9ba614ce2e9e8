-- `report::is_open` meets its contract: the last arm takes the other state forms.
use mathlib.Core.Path.{◌≡◌, refl}
use mathlib.Core.Bool.{false}
use Rattle.booktext.specs.declared.StateForm.{StateForm}
use Rattle.booktext.specs.declared.StateForm.TheVariants.{NoState, OpenState, ClaimState}
use Rattle.report.specs.Reports.{is_open_state}
use Rattle.report.proofs.is_open.Goals as goal

others : (state : StateForm) → (state ≡ OpenState → ⊥) → false ≡ is_open_state state
unfolding is_open_state
others NoState o = refl
others OpenState o = absurd (o refl)
others ClaimState o = refl

pub returns-in-OpenState : goal.returns-in-OpenState
unfolding is_open_state
returns-in-OpenState c = rw c.in-OpenState.is

pub returns-in_default : goal.returns-in_default
returns-in_default c = others c.args.state c.in_default.not-OpenState
