-- What comes back when a written text is read, and when what was read is written.
use Rattle.std.specs.Prelude.{ℕ, ◌+◌, ◌≤◌, ◌<◌, ◌≡◌, List, pos, length, get_or}
use Rattle.wellfounded.specs.Lists.{sum_below}
use Rattle.tables.specs.declared.Fault.{Fault}
use Rattle.tables.specs.Faults.{accepted, refused}
use Rattle.tables.specs.Limits.{max_value, max_level}
use Rattle.tables.specs.Rows.{rule_count, rule_start, rule_size, rules_of, literals_by_rule, clause_count, clause_start, clause_size, clauses_of}
use Rattle.tables.specs.Loads.{load_count, load_entry, load_size, loads_of}
use Rattle.tables.specs.Sound.{Tables, claim_slices, Sound}
use Rattle.judging.specs.Judging.{failed, max_bytes}
use Rattle.judging.specs.LentTables.{Table, Rules, Literals, Clauses, Loads, LoadLiterals, Minutes, Marks, Values, Levels}
use Rattle.forms.specs.Contents.{Contents, over}
use Rattle.booktext.specs.declared.StateForm.TheVariants.{ClaimState}
use Rattle.booktext.specs.declared.Book.{Book}
use Rattle.booktext.specs.Answers.{answer_of, Reads}
use Rattle.booktext.specs.UsedParts.{used_in, used_parts, tables_of}
use Rattle.std.specs.declared.result.Result.TheVariants.{Ok}
use Rattle.writing.specs.Writing.{Written, literals_by_row, terms_by_row, write_of}
use Rattle.writing.specs.BookForms.{text_of}

-- How many entries of each table a book and its claim take once they are written and read: as many rows as before, literals and terms
-- counted by row, and N marks, values and levels.
unfoldable pub taken_in : Tables → Table → ℕ
taken_in t Rules = length t.rules
taken_in t Literals = literals_by_row t.rules t.clauses
taken_in t Clauses = length t.clauses
taken_in t Loads = length t.loads
taken_in t LoadLiterals = terms_by_row t.loads
taken_in t Minutes = terms_by_row t.loads
taken_in t Marks = t.atoms
taken_in t Values = t.atoms
taken_in t Levels = t.atoms

-- Lent tables that hold them.
pub record HoldsBook (t : Tables) (held : Contents) : Type 0 where
  pub each : (table : Table) → taken_in t table ≤ length (held table)

-- Values and levels that a text may write. In a call their types see to it.
pub record Writable (values levels : List ℕ) : Type 0 where
  pub small : (atom : ℕ) → get_or values atom 0 ≤ max_value
  pub low : (atom : ℕ) → get_or levels atom 0 ≤ max_level

-- Two books say the same: their atoms, the heads and bodies of rules, the clauses, the bounds and terms of load lines, and the marks.
pub record SameBook (t u : Tables) : Type 0 where
  pub atoms : u.atoms ≡ t.atoms
  pub rules : rules_of u.rules u.literals ≡ rules_of t.rules t.literals
  pub clauses : clauses_of u.clauses u.literals ≡ clauses_of t.clauses t.literals
  pub loads : loads_of u.loads u.load_literals u.minutes ≡ loads_of t.loads t.load_literals t.minutes
  pub marks : u.marks ≡ t.marks

-- Rows are consecutive: each starts where those before it end, and clauses go on in the literal table where the rules end. No load row with a
-- negative start is so.
pub record Consecutive (t : Tables) : Type 0 where
  pub rules : (row : ℕ) → row < rule_count t.rules → rule_start t.rules row ≡ sum_below row (rule_size t.rules)
  pub clauses :
      (row : ℕ) → row < clause_count t.clauses →
      clause_start t.clauses row ≡ literals_by_rule t.rules + sum_below row (clause_size t.clauses)
  pub loads : (row : ℕ) → row < load_count t.loads → load_entry t.loads row 2 ≡ pos (sum_below row (load_size t.loads))

-- What was written comes back: the text is accepted with its claim, exactly the entries that it takes are used, and their parts of the tables
-- say the same, with consecutive rows and the same claim. What came back has no fault, so that it can be written again.
pub record ReadBack (t : Tables) (values levels : List ℕ) (book : Book) (tables : Contents) : Type 0 where
  pub accepted : book.verdict ≡ accepted
  pub claimed : book.state ≡ ClaimState
  pub taken : (table : Table) → used_in book table ≡ taken_in t table
  pub same : SameBook t (tables_of book.atoms (used_parts book tables))
  pub consecutive : Consecutive (tables_of book.atoms (used_parts book tables))
  pub passes :
      let back = tables_of book.atoms (used_parts book tables) in
      Sound back (claim_slices back values levels)
  pub same_values : used_parts book tables Values ≡ values
  pub same_levels : used_parts book tables Levels ≡ levels

-- What was read is written as the text that it was read from: nothing is refused, and the buffer holds these bytes, followed by what it held.
pub record WrittenBack (text before : List ℕ) (answer : Written) (afterwards : List ℕ) : Type 0 where
  pub answered : answer ≡ Ok (length text)
  pub bytes : afterwards ≡ over text before

-- What `rewrite` promises of its answer and of the tables afterwards. Its own buffer holds the longest text, so the buffer's length refuses nothing.
pub record Rewrites (t : Tables) (values levels : List ℕ) (before : Contents) (answer : Book) (afterwards : Contents) : Type 0 where
  -- What the writer refuses is answered as a refused text is, and nothing is written.
  pub refused :
      (fault : Fault) (position : ℕ) → write_of t values levels max_bytes ≡ refused fault position →
      (answer ≡ answer_of (failed fault position)) × (afterwards ≡ before)
  -- What it writes is read: the answer and the tables are those for the text.
  pub read : write_of t values levels max_bytes ≡ accepted → Reads (text_of t values levels) before answer afterwards
  -- And where the tables hold the text, what was written comes back.
  pub back : write_of t values levels max_bytes ≡ accepted → HoldsBook t before → ReadBack t values levels answer afterwards
