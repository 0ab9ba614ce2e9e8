-- Faults that no text comes to: neither the reader nor the check, nor what stops an evaluation, nor a model is refused for them.
-- Assumes nothing.
use Prim.Native.Nat.{ℕ}
use mathlib.Core.Path.{◌≡◌, refl, sym, ap, ◌∙◌}
use mathlib.Core.List.{List}
use lib.ListN.{length}
use Rattle.std.specs.Prelude.{Result, Ok, Err}
use Rattle.tables.specs.declared.Fault.{Fault}
use Rattle.tables.specs.Faults.{Verdict, accepted, refused}
use Rattle.tables.specs.Faults.{fault_number, number_of, position_of, first_fault}
use Rattle.tables.specs.Sound.{Tables, Slice}
use Rattle.tables.proofs.Faults.{refused_accepted, refused_fault}
use Rattle.tables.proofs.Numbers.{number_refused}
use Rattle.checker.specs.Check.{check_of}
use Rattle.evaluator.specs.Evaluate.{refusal_tests, model_tests, evaluated, evaluation_slices}
use Rattle.tables.specs.declared.Refusal.{Refusal}
use Rattle.judging.specs.declared.reached.Reached.{Reached}
use Rattle.judging.specs.Judging.{failed, judge_text, forms_of}
use Rattle.forms.specs.Entries.{book_entries}
use Rattle.booktext.specs.declared.StateForm.{StateForm}
use Rattle.booktext.specs.declared.StateForm.TheVariants.{NoState, OpenState, ClaimState}
use Rattle.booktext.specs.Answers.{state_of, answer_of}
use Rattle.booktext.specs.UsedParts.{tables_of}
use Rattle.outcome.specs.Outcomes.{full_space, verdict_alone, unless_stopped, evaluation_outcome, book_outcome, answer_outcome, outcome_of}

-- The check and the maker never give the fault for some tables.
pub record NeverGiven (fault : Fault) (t : Tables) : Type 0 where
  pub check : (values levels : List ℕ) (at : ℕ) → check_of t values levels ≡ refused fault at → ⊥
  pub stops : (given : List ℕ) (slices : List Slice) (at : ℕ) → first_fault (refusal_tests t given slices) ≡ refused fault at → ⊥
  pub model : (model : List ℕ) (at : ℕ) → first_fault (model_tests t model) ≡ refused fault at → ⊥

evaluation_never :
    (fault : Fault) (t : Tables) → NeverGiven fault t → (given : List ℕ) (at : ℕ) → (evaluation_outcome t given).verdict ≡ refused fault at → ⊥
unfolding evaluation_outcome unless_stopped verdict_alone evaluated
evaluation_never fault t never given at e = step (first_fault (refusal_tests t given slices)) refl e
  where
    slices : List Slice
    slices = evaluation_slices t.atoms (length given) t.atoms t.atoms t.atoms

    step : (v : Verdict) → first_fault (refusal_tests t given slices) ≡ v → (unless_stopped v (evaluated t given)).verdict ≡ refused fault at → ⊥
    step (Ok nothing) d h = never.model _ at h
    step (Err refusal) d h = never.stops given slices at (d ∙ h)

-- Then no text comes to it whose reading does not, and whose tables are such.
module _ (fault : Fault) (text : List ℕ) (unread : (at : ℕ) → judge_text full_space text ≡ failed fault at → ⊥)
    (never : (s : Reached) → judge_text full_space text ≡ Ok s → NeverGiven fault (tables_of s.size (book_entries (forms_of text)))) where
  pub outcome_never : (at : ℕ) → (outcome_of text).verdict ≡ refused fault at → ⊥
  unfolding outcome_of answer_outcome answer_of book_outcome verdict_alone
  outcome_never at e = judged (judge_text full_space text) refl e
    where
      told :
          (state : StateForm) (atoms : ℕ) → NeverGiven fault (tables_of atoms (book_entries (forms_of text))) →
          (book_outcome accepted state atoms (book_entries (forms_of text))).verdict ≡ refused fault at → ⊥
      told NoState atoms none h = refused_accepted (sym h)
      told OpenState atoms none h = evaluation_never fault _ none _ at h
      told ClaimState atoms none h = none.check _ _ at h

      judged :
          (j : Result Reached Refusal) → judge_text full_space text ≡ j →
          (book_outcome (answer_of j).verdict (answer_of j).state (answer_of j).atoms (book_entries (forms_of text))).verdict ≡ refused fault at → ⊥
      judged (Ok s) d h = told (state_of s.phase) s.size (never s d) h
      judged (Err why) d h =
          unread why.position (d ∙ ap (λ (x : Fault). failed x why.position) (refused_fault h))

  pub never_numbered : number_of (outcome_of text).verdict ≡ fault_number fault → ⊥
  never_numbered e = outcome_never (position_of (outcome_of text).verdict) (number_refused (outcome_of text).verdict fault _ e refl)
