-- How the C calls pack their answers into one number.
use Rattle.std.specs.Prelude.{ℕ, ◌+◌, ◌*◌, ◌/◌, ◌%◌, ◌≡◌, Bool, cond, List, [], ◌∷◌, eqb, length}
use Rattle.tables.specs.Faults.{Verdict}
use Rattle.tables.specs.Faults.{number_of, position_of}
use Rattle.tables.specs.Sound.{Tables}
use Rattle.judging.specs.Judging.{forms_of, judge_text}
use Rattle.forms.specs.Contents.{Contents}
use Rattle.booktext.specs.declared.Book.{Book}
use Rattle.booktext.specs.Answers.{state_number, answer_of, space_of, contents_after}
use Rattle.evaluator.specs.Evaluate.{Evaluation}
use Rattle.indexing.specs.Index.{index_starts, index_entries, index_verdict, built_or}
use Rattle.indexed.specs.EvaluateIndexed.{IndexedSlices, evaluate_indexed_of, IndexLeft}
use Rattle.writing.specs.BookForms.{text_of}
use Rattle.writing.specs.Writing.{write_of, written_of, length_in, buffer_after}

-- The verdict's number × 65,536 + its position; 0 if accepted.
unfoldable pub packed : Verdict → ℕ
packed verdict = number_of verdict * 65536 + position_of verdict

-- A count above it: the maker's rounds, the writer's length.
unfoldable pub packed_with : Verdict → ℕ → ℕ
packed_with verdict count = count * 4294967296 + packed verdict

-- What the reader counted: N, the entries of rules, literals, clauses, loads and terms, and the number of the state form.
unfoldable pub counts_of : Book → List ℕ
counts_of book =
    book.atoms ∷ book.rules ∷ book.literals ∷ book.clauses ∷ book.loads ∷ book.terms ∷ state_number book.state ∷ []

-- Answered where the counts have not seven places; no call's verdict packs to it (`Unpacking`, `check_unpacks` and those after it).
abbrev pub no_answer : ℕ
no_answer = 4294967295

-- What the maker's call promises: its answer, and the three slices afterwards.
pub record EvaluatedForC (e : Evaluation) (answer : ℕ) (values levels work : List ℕ) : Type 0 where
  pub answered : answer ≡ packed_with e.verdict e.rounds
  pub values_is : values ≡ e.values
  pub levels_is : levels ≡ e.levels
  pub work_is : work ≡ e.work

-- What the call of the maker that follows the index promises: its answer, and the six slices afterwards.
pub record EvaluatedIndexedForC
    (t : Tables) (s : IndexedSlices) (answer : ℕ) (values levels work starts entries counts : List ℕ) : Type 0 where
  pub evaluated : EvaluatedForC (evaluate_indexed_of t s) answer values levels work
  pub left : IndexLeft t s starts entries counts

-- What the reader's call promises. With seven places it is the reader's answer; with any other number of places nothing is written.
unfoldable pub seven_places : List ℕ → Bool
seven_places answer = eqb (length answer) 7

pub record ReadForC
    (text : List ℕ) (before : Contents) (answer : List ℕ) (code : ℕ) (afterwards : Contents) (answerAfter : List ℕ) : Type 0 where
  pub answered : code ≡ cond (seven_places answer) (packed (answer_of (judge_text (space_of before) text)).verdict) no_answer
  pub counts : answerAfter ≡ cond (seven_places answer) (counts_of (answer_of (judge_text (space_of before) text))) answer
  pub written : afterwards ≡ cond (seven_places answer) (contents_after (judge_text (space_of before) text) (forms_of text) before) before

-- What the writer's call promises: its answer, and the buffer afterwards.
pub record WrittenForC (t : Tables) (values levels before : List ℕ) (answer : ℕ) (afterwards : List ℕ) : Type 0 where
  pub answered :
      answer ≡ packed_with (write_of t values levels (length before)) (length_in (written_of (write_of t values levels (length before)) (text_of t values levels)))
  pub written : afterwards ≡ buffer_after (write_of t values levels (length before)) (text_of t values levels) before

-- What the index's call promises: its answer, and both slices afterwards.
pub record IndexedForC (t : Tables) (starts entries : List ℕ) (answer : ℕ) (startsAfter entriesAfter : List ℕ) : Type 0 where
  pub answered : answer ≡ packed (index_verdict t (length starts) (length entries))
  pub starts_built : startsAfter ≡ built_or (index_verdict t (length starts) (length entries)) (index_starts t) starts
  pub entries_built : entriesAfter ≡ built_or (index_verdict t (length starts) (length entries)) (index_entries t) entries

-- What a packed verdict tells: the verdict's number and position, and that it is an answer.
pub record Unpacks (verdict : Verdict) : Type 0 where
  pub number : packed verdict / 65536 ≡ number_of verdict
  pub position : packed verdict % 65536 ≡ position_of verdict
  pub answers : packed verdict ≡ no_answer → ⊥
