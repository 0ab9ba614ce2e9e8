-- What a text comes to: its verdict, and for an open form what was made.
use Rattle.std.specs.Prelude.{ℕ, List, [], length}
use Rattle.std.specs.declared.result.Result.TheVariants.{Ok, Err}
use Rattle.tables.specs.Faults.{Verdict, first_fault}
use Rattle.tables.specs.Sound.{Tables}
use Rattle.checker.specs.Check.{check_of}
use Rattle.evaluator.specs.Evaluate.{evaluation_slices, refusal_tests, Evaluation, evaluated}
use Rattle.format.specs.Forms.{Form}
use Rattle.judging.specs.declared.reached.Space.{Space}
use Rattle.judging.specs.LentTables.{Values, Levels, full_size, space_with}
use Rattle.judging.specs.Judging.{forms_of, judge_text}
use Rattle.forms.specs.Contents.{Contents}
use Rattle.forms.specs.Entries.{book_entries}
use Rattle.booktext.specs.declared.StateForm.{StateForm}
use Rattle.booktext.specs.declared.StateForm.TheVariants.{NoState, OpenState, ClaimState}
use Rattle.booktext.specs.declared.Book.{Book}
use Rattle.booktext.specs.Answers.{answer_of}
use Rattle.booktext.specs.UsedParts.{tables_of}

-- The sizes of tables that hold every book.
unfoldable pub full_space : Space
full_space = space_with full_size

-- The verdict and the state form, and of an evaluation that was made its rounds, values and levels.
pub record TextOutcome : Type 0 where
  pub verdict : Verdict
  pub state : StateForm
  pub rounds : ℕ
  pub values : List ℕ
  pub levels : List ℕ

-- Nothing was made.
unfoldable pub verdict_alone : StateForm → Verdict → TextOutcome
verdict_alone state verdict = record { verdict = verdict; state = state; rounds = 0; values = []; levels = [] }

-- An evaluation is stopped by a fault of the tables or of the open values, or it is made.
unfoldable pub unless_stopped : Verdict → Evaluation → TextOutcome
unless_stopped (Ok nothing) e = record { verdict = e.verdict; state = OpenState; rounds = e.rounds; values = e.values; levels = e.levels }
unless_stopped (Err refusal) e = verdict_alone OpenState (Err refusal)

unfoldable pub evaluation_outcome : Tables → List ℕ → TextOutcome
evaluation_outcome t given =
    let slices = evaluation_slices t.atoms (length given) t.atoms t.atoms t.atoms in
    unless_stopped (first_fault (refusal_tests t given slices)) (evaluated t given)

-- Without a state form there is the reader's verdict alone; an open form is evaluated, a claim is checked.
unfoldable pub book_outcome : Verdict → StateForm → ℕ → Contents → TextOutcome
book_outcome verdict NoState atoms used = verdict_alone NoState verdict
book_outcome verdict OpenState atoms used = evaluation_outcome (tables_of atoms used) (used Values)
book_outcome verdict ClaimState atoms used = verdict_alone ClaimState (check_of (tables_of atoms used) (used Values) (used Levels))

-- What a text comes to, from tables of full size.
unfoldable pub answer_outcome : Book → List Form → TextOutcome
answer_outcome book forms = book_outcome book.verdict book.state book.atoms (book_entries forms)

unfoldable pub outcome_of : List ℕ → TextOutcome
outcome_of text = answer_outcome (answer_of (judge_text full_space text)) (forms_of text)
