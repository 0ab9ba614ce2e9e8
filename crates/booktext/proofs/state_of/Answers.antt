-- `booktext::state_of` meets its contract: each way out is a case of the definition.
use mathlib.Core.Path.{◌≡◌, refl}
use Rattle.judging.specs.declared.reached.Phase.{Phase}
use Rattle.judging.specs.declared.reached.Phase.TheVariants.{NothingYet, AtomsStood, InRules, InClauses, InLoads, OpenStood, ClaimStood, Past}
use Rattle.booktext.specs.declared.StateForm.TheVariants.{NoState}
use Rattle.booktext.specs.Answers.{state_of}
use Rattle.booktext.proofs.state_of.Goals as goal

-- the phases that the last arm takes
others : (p : Phase) → (p ≡ OpenStood → ⊥) → (p ≡ ClaimStood → ⊥) → NoState ≡ state_of p
unfolding state_of
others NothingYet o c = refl
others AtomsStood o c = refl
others InRules o c = refl
others InClauses o c = refl
others InLoads o c = refl
others OpenStood o c = absurd (o refl)
others ClaimStood o c = absurd (c refl)
others Past o c = refl

pub returns-in-OpenStood : goal.returns-in-OpenStood
unfolding state_of
returns-in-OpenStood c = rw c.in-OpenStood.is

pub returns-in-ClaimStood : goal.returns-in-ClaimStood
unfolding state_of
returns-in-ClaimStood c = rw c.in-ClaimStood.is

pub returns-in_default : goal.returns-in_default
returns-in_default c = others _ c.in_default.not-OpenStood c.in_default.not-ClaimStood
