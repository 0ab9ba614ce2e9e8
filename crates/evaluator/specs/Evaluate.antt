-- What the evaluator (the paper's maker) answers and leaves in each slice. `setting` is the content of the open values that it is lent.
use Rattle.std.specs.Prelude.{ℕ, ◌≡◌, Bool, true, not, cond, List, [], ◌∷◌, ◌++◌, eqb, length, replicate}
use Rattle.wellfounded.specs.Lists.{any}
use Rattle.wellfounded.specs.Literals.{is_held, value_at}
use Rattle.wellfounded.specs.Definitions.{Definition, is_defined}
use Rattle.wellfounded.specs.Stages.{closure, well_founded_model, stages_of}
use Rattle.std.specs.declared.result.Result.TheVariants.{Ok, Err}
use Rattle.tables.specs.declared.Fault.{Fault}
use Rattle.tables.specs.declared.Fault.TheVariants.{Value, Undecided, FailingClause, FailingLoad}
use Rattle.tables.specs.Faults.{Verdict, fault_number, Test, first_fault}
use Rattle.tables.specs.Sound.{Tables, book_of, Slice, sized, lent_tests}
use Rattle.tables.specs.Values.{not_held}
use Rattle.satisfaction.specs.Satisfied.{satisfaction_tests}

-- 21: an open atom's value that is not 0 or 1, or a defined atom's that is not 0.
unfoldable pub bad_setting : Definition → List ℕ → ℕ → Bool
bad_setting d setting atom = not (cond (is_defined d atom) (eqb (value_at setting atom) 0) (is_held (value_at setting atom)))

unfoldable pub setting_test : Definition → List ℕ → Test
setting_test d setting = record { fault = Value; positions = d.size; bad = bad_setting d setting }

-- 25: an atom that the model leaves undecided.
unfoldable pub undecided_test : ℕ → List ℕ → Test
undecided_test atoms model = record { fault = Undecided; positions = atoms; bad = not_held model }

-- The slices that the evaluator is lent beside the tables, by their lengths: open values, values, levels and work, N entries each.
abbrev pub evaluation_slices : ℕ → ℕ → ℕ → ℕ → ℕ → List Slice
evaluation_slices atoms setting values levels work = sized setting atoms ∷ sized values atoms ∷ sized levels atoms ∷ sized work atoms ∷ []

-- The faults that stop the evaluator before it writes anything: those of what it is lent, and of the setting.
unfoldable pub refusal_tests : Tables → List ℕ → List Slice → List Test
refusal_tests t setting slices = lent_tests t slices ++ (setting_test (book_of t) setting ∷ [])

-- The faults of the model that it has made.
unfoldable pub model_tests : Tables → List ℕ → List Test
model_tests t model = undecided_test t.atoms model ∷ satisfaction_tests t model

-- The faults of a model: an atom left undecided, a failing clause, a failing load line.
abbrev pub model_faults : List Fault
model_faults = Undecided ∷ FailingClause ∷ FailingLoad ∷ []

unfoldable pub model_fault : Fault → Bool
model_fault fault = any (λ (f : Fault). eqb (fault_number f) (fault_number fault)) model_faults

-- Whether an evaluation was made: it was accepted, or refused for its model.
unfoldable pub is_made : Verdict → Bool
is_made (Ok nothing) = true
is_made (Err refusal) = model_fault refusal.fault

-- The answer, and what values, levels and work hold afterwards.
pub record Evaluation : Type 0 where
  pub verdict : Verdict
  pub rounds : ℕ
  pub values : List ℕ
  pub levels : List ℕ
  pub work : List ℕ

-- Evaluated: the well-founded model with its stages, work all 0, and the closure number for rounds.
unfoldable pub evaluated : Tables → List ℕ → Evaluation
evaluated t setting =
    record {
      verdict = first_fault (model_tests t (well_founded_model (book_of t) setting));
      rounds = closure (book_of t) setting;
      values = well_founded_model (book_of t) setting;
      levels = stages_of (book_of t) setting;
      work = replicate t.atoms 0;
    }

-- Stopped: nothing is written and rounds is 0.
unfoldable pub stopped_or : Verdict → List ℕ → List ℕ → List ℕ → Evaluation → Evaluation
stopped_or (Ok nothing) values levels work made = made
stopped_or (Err refusal) values levels work made =
    record { verdict = Err refusal; rounds = 0; values = values; levels = levels; work = work }

unfoldable pub evaluate_of : Tables → List ℕ → List ℕ → List ℕ → List ℕ → Evaluation
evaluate_of t setting values levels work =
    let slices = evaluation_slices t.atoms (length setting) (length values) (length levels) (length work) in
    let made = evaluated t setting in
    stopped_or (first_fault (refusal_tests t setting slices)) values levels work made

-- A call's answer and the content of its slices afterwards are an evaluation.
pub record Answers (e : Evaluation) (verdict : Verdict) (rounds : ℕ) (values levels work : List ℕ) : Type 0 where
  pub verdict_is : verdict ≡ e.verdict
  pub rounds_is : rounds ≡ e.rounds
  pub values_is : values ≡ e.values
  pub levels_is : levels ≡ e.levels
  pub work_is : work ≡ e.work
