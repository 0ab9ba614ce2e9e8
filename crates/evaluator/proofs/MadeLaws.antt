-- Whether an evaluation was made: what stops the maker is no fault of a model, and what the model is refused for is one.
-- Assumes nothing.
use Prim.Native.Nat.{ℕ}
use mathlib.Core.Path.{◌≡◌, refl}
use mathlib.Core.Bool.{true, false, not}
use mathlib.Core.List.{List, [], ◌∷◌}
use lib.Dec.{eqb}
use borrow.Author.Tests.{not-true}
use Rattle.wellfounded.specs.Lists.{all, any}
use Rattle.tables.specs.declared.Fault.{Fault}
use Rattle.std.specs.declared.result.Result.TheVariants.{Ok, Err}
use Rattle.tables.specs.Faults.{Verdict, refused}
use Rattle.tables.specs.Faults.{fault_number, first_fault, number_of}
use Rattle.tables.specs.Sound.{Tables, table_tests, Slice, slice_test, mark_count_test, mark_test, lent_tests}
use Rattle.tables.specs.contracts.Fault.{enum}
use Rattle.tables.proofs.Faults.{refused_among}
use Rattle.tables.proofs.Enums.{every_same}
use Rattle.satisfaction.specs.Satisfied.{clause_test, load_test, satisfaction_tests}
use Rattle.evaluator.specs.Evaluate.{setting_test, undecided_test, refusal_tests, model_tests, model_fault, is_made}

-- A verdict says that the evaluation was made exactly if its number is 0, 25, 26 or 27.
pub made_numbers : (v : Verdict) → is_made v ≡ any (eqb (number_of v)) (0 ∷ 25 ∷ 26 ∷ 27 ∷ [])
unfolding is_made model_fault any
made_numbers (Ok nothing) = refl
made_numbers (Err refusal) = every_same enum model_fault (λ f. any (eqb (fault_number f)) (0 ∷ 25 ∷ 26 ∷ 27 ∷ [])) refl refusal.fault

-- An evaluation that is stopped is not made,
pub stopped_unmade :
    (t : Tables) (setting : List ℕ) (slices : List Slice) (fault : Fault) (position : ℕ) →
    first_fault (refusal_tests t setting slices) ≡ refused fault position →
    model_fault fault ≡ false
unfolding refusal_tests lent_tests table_tests slice_test mark_count_test mark_test setting_test all any model_fault
stopped_unmade t setting slices fault position e =
    not-true _ (refused_among (λ f. not (model_fault f)) (refusal_tests t setting slices) refl fault position e)

-- and one that is judged by its model is.
pub model_made : (t : Tables) (model : List ℕ) → is_made (first_fault (model_tests t model)) ≡ true
unfolding model_tests undecided_test satisfaction_tests clause_test load_test all any model_fault is_made
model_made t model = step (first_fault (model_tests t model)) refl
  where
    step : (v : Verdict) → first_fault (model_tests t model) ≡ v → is_made v ≡ true
    step (Ok nothing) e = refl
    step (Err refusal) e = refused_among model_fault (model_tests t model) refl refusal.fault refusal.position e
