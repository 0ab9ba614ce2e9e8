-- What the functions promise that give an outcome, and what they ask.
use Rattle.std.specs.Prelude.{ℕ, ◌*◌, ◌≤◌, ◌≡◌, List, length}
use Rattle.tables.specs.Faults.{Verdict}
use Rattle.tables.specs.Limits.{max_atoms, max_literals, max_rule_rows}
use Rattle.tables.specs.Rows.{rule_width, literals_by_rule}
use Rattle.tables.specs.Sound.{Tables}
use Rattle.evaluator.specs.Evaluate.{evaluate_of, Answers}
use Rattle.judging.specs.LentTables.{Table, Rules}
use Rattle.forms.specs.Contents.{Contents, over}
use Rattle.booktext.specs.declared.StateForm.{StateForm}
use Rattle.booktext.specs.declared.Book.{Book}
use Rattle.booktext.specs.UsedParts.{used_in, used_parts}
use Rattle.outcome.specs.Outcomes.{TextOutcome}

-- A reader's answer fits the tables that it speaks of, and the arrays of the maker.
pub record FitsBook (book : Book) (held : Contents) : Type 0 where
  pub few : book.atoms ≤ max_atoms
  pub few_rules : book.rules ≤ max_rule_rows * rule_width
  pub few_literals : literals_by_rule (used_parts book held Rules) ≤ max_literals
  pub each : (table : Table) → used_in book table ≤ length (held table)

-- The maker's arrays hold what it needs for a book: work for each atom, a count for each rule, and the index.
pub record FitsArrays (rules given : List ℕ) : Type 0 where
  pub few : length given ≤ max_atoms
  pub few_rules : length rules ≤ max_rule_rows * rule_width
  pub few_literals : literals_by_rule rules ≤ max_literals

-- The slices hold a value and a level for each atom of the largest book.
pub record HoldEveryAtom (values levels : List ℕ) : Type 0 where
  pub values_long : max_atoms ≤ length values
  pub levels_long : max_atoms ≤ length levels

-- A function that evaluates with work of its own answers what the plain maker does with some work of the right length.
pub record MakesEvaluation
    (t : Tables) (given values levels : List ℕ) (verdict : Verdict) (rounds : ℕ) (valuesAfter levels_after : List ℕ) : Type 0 where
  pub work : List ℕ
  pub work_after : List ℕ
  pub work_long : length work ≡ t.atoms
  pub answers : Answers (evaluate_of t given values levels work) verdict rounds valuesAfter levels_after work_after

-- A function that gives an outcome answers it, with the values and levels that were made at the front of the lent slices.
pub record GivesOutcome (o : TextOutcome) (values levels : List ℕ) (verdict : Verdict) (state : StateForm) (atoms rounds : ℕ)
    (valuesAfter levels_after : List ℕ) : Type 0 where
  pub verdict_is : verdict ≡ o.verdict
  pub state_is : state ≡ o.state
  pub atoms_is : atoms ≡ length o.values
  pub rounds_is : rounds ≡ o.rounds
  pub values_is : valuesAfter ≡ over o.values values
  pub levels_is : levels_after ≡ over o.levels levels
