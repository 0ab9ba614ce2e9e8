-- How large an outcome can be: its position, its rounds, and the values and levels that were made.
-- Assumes nothing.
use Prim.Native.Nat.{ℕ, ◌≤◌}
use mathlib.Core.Path.{◌≡◌, refl, sym, ◌∙◌}
use mathlib.Core.List.{List}
use native.Mathlib.Omega.{arith}
use lib.ListN.{length, get_or}
use Rattle.wellfounded.proofs.Closure.{model_length, stages_length, stages_closure, model_values}
use Rattle.std.specs.declared.result.Result.TheVariants.{Ok, Err}
use Rattle.tables.specs.Faults.{Verdict}
use Rattle.tables.specs.Limits.{max_atoms, max_position}
use Rattle.tables.specs.Faults.{position_of, first_fault}
use Rattle.tables.specs.Sound.{Tables, book_of, Slice}
use Rattle.evaluator.specs.Evaluate.{evaluation_slices, refusal_tests, evaluated}
use Rattle.checker.proofs.Positions.{check_position}
use Rattle.evaluator.proofs.Positions.{model_position, refusal_position, open_given, small_tables, small_book, small_closure}
use Rattle.judging.specs.Judging.{judge_text, forms_of}
use Rattle.forms.specs.Entries.{book_entries}
use Rattle.booktext.specs.declared.StateForm.{StateForm}
use Rattle.booktext.specs.declared.StateForm.TheVariants.{NoState, OpenState, ClaimState}
use Rattle.booktext.specs.Answers.{answer_of}
use Rattle.booktext.proofs.Positions.{text_position}
use Rattle.outcome.specs.Outcomes.{full_space, TextOutcome, verdict_alone, unless_stopped, evaluation_outcome, book_outcome, answer_outcome, outcome_of}

-- What every outcome is: a position of 16 bits, at most 1,024 rounds, as many values as levels and at most 1,024 of them,
-- values false, true or undecided, and no level above the rounds.
pub record Bounded (o : TextOutcome) : Type 0 where
  pub position : position_of o.verdict ≤ max_position
  pub rounds : o.rounds ≤ max_atoms
  pub alike : length o.values ≡ length o.levels
  pub few : length o.levels ≤ max_atoms
  pub values : (k : ℕ) → get_or o.values k 0 ≤ 2
  pub levels : (k : ℕ) → get_or o.levels k 0 ≤ o.rounds

alone_bounded : (state : StateForm) (v : Verdict) → position_of v ≤ max_position → Bounded (verdict_alone state v)
unfolding verdict_alone
alone_bounded state v l =
    record { position = l; rounds = omega arith; alike = refl; few = omega arith; values = λ k. omega arith; levels = λ k. omega arith }

pub evaluation_bounded : (t : Tables) (given : List ℕ) → Bounded (evaluation_outcome t given)
unfolding evaluation_outcome unless_stopped evaluated
evaluation_bounded t given = step (first_fault (refusal_tests t given slices)) refl
  where
    slices : List Slice
    slices = evaluation_slices t.atoms (length given) t.atoms t.atoms t.atoms

    step : (v : Verdict) → first_fault (refusal_tests t given slices) ≡ v → Bounded (unless_stopped v (evaluated t given))
    step (Ok nothing) e =
        record {
          position = model_position t (small_tables t given slices e) _;
          rounds = small_closure t given slices e;
          alike = model_length (book_of t) given ∙ sym (stages_length (book_of t) given);
          few = rw (stages_length (book_of t) given) (small_book t given slices e);
          values = model_values (book_of t) given (open_given t given slices e);
          levels = stages_closure (book_of t) given;
        }
    step (Err refusal) e = alone_bounded OpenState _ (rw e at (refusal_position t given slices))

pub outcome_bounded : (text : List ℕ) → Bounded (outcome_of text)
unfolding outcome_of answer_outcome book_outcome
outcome_bounded text = step (answer_of (judge_text full_space text)).state
  where
    step :
        (state : StateForm) →
        Bounded (book_outcome (answer_of (judge_text full_space text)).verdict state (answer_of (judge_text full_space text)).atoms (book_entries (forms_of text)))
    step NoState = alone_bounded NoState _ (text_position full_space text)
    step OpenState = evaluation_bounded _ _
    step ClaimState = alone_bounded ClaimState _ (check_position _ _ _)

module _ (text : List ℕ) where
  pub outcome_position : position_of (outcome_of text).verdict ≤ max_position
  outcome_position = (outcome_bounded text).position

  pub levels_within_rounds : (k : ℕ) → get_or (outcome_of text).levels k 0 ≤ (outcome_of text).rounds
  levels_within_rounds = (outcome_bounded text).levels
