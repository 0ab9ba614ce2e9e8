-- What making a model comes to.
use Rattle.std.specs.Prelude.{ℕ, ◌≡◌, List, length}
use Rattle.std.specs.declared.result.Result.{Result}
use Rattle.std.specs.declared.result.Result.TheVariants.{Ok, Err}
use Rattle.tables.specs.declared.Refusal.{Refusal}
use Rattle.tables.specs.Faults.{Verdict, accepted, first_fault}
use Rattle.tables.specs.Sound.{Tables, book_of}
use Rattle.rounds.specs.internal.Rounds.{RoundsDone}
use Rattle.evaluator.specs.Evaluate.{evaluation_slices, refusal_tests}

-- What the faults that stop the evaluator come to.
abbrev pub stop_of : Tables → List ℕ → List ℕ → List ℕ → List ℕ → Verdict
stop_of t setting values levels work =
    first_fault (refusal_tests t setting (evaluation_slices t.atoms (length setting) (length values) (length levels) (length work)))

-- It is stopped, and nothing is written.
pub record Stopped (t : Tables) (setting values levels work : List ℕ) (refusal : Refusal) (values' levels' work' : List ℕ) : Type 0 where
  pub stops : stop_of t setting values levels work ≡ Err refusal
  pub same_values : values' ≡ values
  pub same_levels : levels' ≡ levels
  pub same_work : work' ≡ work

-- Nothing stops it, and all rounds are done.
pub record Made (t : Tables) (setting values levels work : List ℕ) (rounds : ℕ) (values' levels' work' : List ℕ) : Type 0 where
  pub passes : stop_of t setting values levels work ≡ accepted
  pub done : RoundsDone (book_of t) setting values' levels' work' rounds

unfoldable pub Makes : Tables → List ℕ → List ℕ → List ℕ → List ℕ → Result ℕ Refusal → List ℕ → List ℕ → List ℕ → Type 0
Makes t setting values levels work (Ok rounds) values' levels' work' = Made t setting values levels work rounds values' levels' work'
Makes t setting values levels work (Err refusal) values' levels' work' = Stopped t setting values levels work refusal values' levels' work'
