-- What the reader answers, and what it leaves in the lent tables.
use Rattle.std.specs.Prelude.{ℕ, ◌≡◌, List, length, Result, Ok, Err}
use Rattle.tables.specs.Faults.{accepted}
use Rattle.format.specs.Forms.{Form}
use Rattle.tables.specs.declared.Refusal.{Refusal}
use Rattle.judging.specs.declared.reached.Reached.{Reached}
use Rattle.judging.specs.declared.reached.Space.{Space}
use Rattle.judging.specs.Judging.{judge_text, forms_of}
use Rattle.judging.specs.declared.reached.Phase.{Phase}
use Rattle.judging.specs.declared.reached.Phase.TheVariants.{OpenStood, ClaimStood}
use Rattle.judging.specs.LentTables.{space_with}
use Rattle.forms.specs.Contents.{Contents, filled}
use Rattle.forms.specs.Entries.{book_entries}
use Rattle.booktext.specs.declared.StateForm.{StateForm}
use Rattle.booktext.specs.declared.StateForm.TheVariants.{NoState, OpenState, ClaimState}
use Rattle.booktext.specs.declared.Book.{Book}

-- The lengths of the lent tables.
unfoldable pub space_of : Contents → Space
space_of held = space_with (λ table. length (held table))

-- The state form that a text has ended with, and the number by which C is told each.
unfoldable pub state_of : Phase → StateForm
state_of OpenStood = OpenState
state_of ClaimStood = ClaimState
state_of phase = NoState

abbrev pub state_number : StateForm → ℕ
state_number NoState = 0
state_number OpenState = 1
state_number ClaimState = 2

-- N and the entries used in each table, as single numbers. A refused text answers them as 0, and no state form.
unfoldable pub answer_of : Result Reached Refusal → Book
answer_of (Ok s) =
    record {
      verdict = accepted;
      atoms = s.size;
      rules = s.rules;
      literals = s.literals;
      clauses = s.clauses;
      loads = s.loads;
      terms = s.terms;
      state = state_of s.phase;
    }
answer_of (Err why) =
    record { verdict = Err why; atoms = 0; rules = 0; literals = 0; clauses = 0; loads = 0; terms = 0; state = NoState }

-- The tables of an accepted text are filled; a refused text writes nothing.
unfoldable pub contents_after : Result Reached Refusal → List Form → Contents → Contents
contents_after (Ok s) forms held = filled (book_entries forms) held
contents_after (Err why) forms held = held

-- What `read` promises of its answer and of the tables afterwards.
pub record Reads (text : List ℕ) (before : Contents) (answer : Book) (afterwards : Contents) : Type 0 where
  pub answered : answer ≡ answer_of (judge_text (space_of before) text)
  pub written : afterwards ≡ contents_after (judge_text (space_of before) text) (forms_of text) before
