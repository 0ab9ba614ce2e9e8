-- `outcome::is_made` meets its contract: the faults of a model are those that the code names.
use mathlib.Core.Path.{◌≡◌, refl}
use mathlib.Core.Logic.{◌⊎◌, ⊎_elim}
use mathlib.Core.Bool.{true, false}
use Rattle.tables.specs.declared.Fault.{Fault}
use Rattle.wellfounded.specs.Lists.{any}
use Rattle.tables.specs.declared.Fault.TheVariants.{Undecided, FailingClause, FailingLoad}
use Rattle.evaluator.specs.Evaluate.{model_fault, is_made}
use Rattle.outcome.proofs.is_made.Goals as goal

-- The last arm takes the faults that are no model's.
not_model : (fault : Fault) → (fault ≡ Undecided → ⊥) → (fault ≡ FailingClause → ⊥) → (fault ≡ FailingLoad → ⊥) → false ≡ model_fault fault
unfolding model_fault any
not_model Undecided u c l = absurd (u refl)
not_model FailingClause u c l = absurd (c refl)
not_model FailingLoad u c l = absurd (l refl)
not_model _ u c l = refl

made_of : (fault : Fault) → (fault ≡ Undecided) ⊎ ((fault ≡ FailingClause) ⊎ (fault ≡ FailingLoad)) → true ≡ model_fault fault
unfolding model_fault any
made_of fault named = ⊎_elim (λ u. rw u) (λ other. ⊎_elim (λ f. rw f) (λ l. rw l) other) named

pub returns-in-Ok : goal.returns-in-Ok
unfolding is_made
returns-in-Ok c = rw c.in-Ok.is

pub returns-in-Undecided : goal.returns-in-Undecided
unfolding is_made
returns-in-Undecided c = rw c.in-Err.is (made_of c.in-Err.refusal.fault c.in-Undecided.is)

pub returns-in_default : goal.returns-in_default
unfolding is_made
returns-in_default c = rw c.in-Err.is (not_model c.in-Err.refusal.fault c.in_default.not-Undecided c.in_default.not-FailingClause c.in_default.not-FailingLoad)
