-- What the writer answers, and what it leaves in the lent buffer.
use Rattle.std.specs.Prelude.{ℕ, ◌+◌, ◌≤◌, ◌≡◌, Bool, not, ◌&&◌, List, [], ◌∷◌, ◌++◌, leb, ℤ, length}
use Rattle.wellfounded.specs.Lists.{sum_below}
use Rattle.tables.specs.declared.Fault.TheVariants.{TextSize}
use Rattle.std.specs.declared.result.Result.{Result}
use Rattle.std.specs.declared.result.Result.TheVariants.{Ok, Err}
use Rattle.tables.specs.declared.Refusal.{Refusal}
use Rattle.tables.specs.Faults.{Verdict, accepted}
use Rattle.tables.specs.Limits.{max_literals, max_terms}
use Rattle.tables.specs.Faults.{Test, first_fault}
use Rattle.tables.specs.Rows.{literals_by_rule, clause_count, clause_size}
use Rattle.tables.specs.Loads.{load_count, load_size}
use Rattle.tables.specs.Sound.{Tables, claim_slices, lent_tests}
use Rattle.judging.specs.Judging.{max_bytes}
use Rattle.forms.specs.Contents.{over}
use Rattle.writing.specs.BookForms.{text_of}

-- The literals of rules and clauses, and the terms of load lines, counted by row: what rows share counts for each of them.
unfoldable pub literals_by_row : List ℕ → List ℕ → ℕ
literals_by_row rules clauses = literals_by_rule rules + sum_below (clause_count clauses) (clause_size clauses)

unfoldable pub terms_by_row : List ℤ → ℕ
terms_by_row loads = sum_below (load_count loads) (load_size loads)

-- 32 is absent if both hold: the literals and the terms are within the limits of a text; its bytes are within their limit and within the buffer.
unfoldable pub rows_fit : List ℕ → List ℕ → List ℤ → Bool
rows_fit rules clauses loads = leb (literals_by_row rules clauses) max_literals && leb (terms_by_row loads) max_terms

unfoldable pub bytes_fit : ℕ → ℕ → Bool
bytes_fit bytes room = leb bytes max_bytes && leb bytes room

unfoldable pub text_test : Tables → List ℕ → List ℕ → ℕ → Test
text_test t values levels room =
    record {
      fault = TextSize;
      positions = 1;
      bad = λ k. not (rows_fit t.rules t.clauses t.loads && bytes_fit (length (text_of t values levels)) room);
    }

-- The faults of a call of the writer: those of what it is lent, and of the text. `room` is the length of the buffer.
unfoldable pub write_tests : Tables → List ℕ → List ℕ → ℕ → List Test
write_tests t values levels room = lent_tests t (claim_slices t values levels) ++ (text_test t values levels room ∷ [])

unfoldable pub write_of : Tables → List ℕ → List ℕ → ℕ → Verdict
write_of t values levels room = first_fault (write_tests t values levels room)

-- The answer: the length of the text, or the refusal.
abbrev pub Written : Type 0
Written = Result ℕ Refusal

unfoldable pub written_of : Verdict → List ℕ → Written
written_of (Ok nothing) text = Ok (length text)
written_of (Err refusal) text = Err refusal

-- The verdict that an answer tells, and the length that it tells: 0 if refused.
abbrev pub verdict_in : Written → Verdict
verdict_in (Ok long) = accepted
verdict_in (Err refusal) = Err refusal

abbrev pub length_in : Written → ℕ
length_in (Ok long) = long
length_in (Err refusal) = 0

-- The buffer afterwards: the text, followed by what it held; a refusal writes nothing.
unfoldable pub buffer_after : Verdict → List ℕ → List ℕ → List ℕ
buffer_after (Ok nothing) text held = over text held
buffer_after (Err refusal) text held = held

-- What `write` promises of its answer and of the buffer afterwards.
pub record Writes (t : Tables) (values levels before : List ℕ) (answer : Written) (afterwards : List ℕ) : Type 0 where
  pub answered : answer ≡ written_of (write_of t values levels (length before)) (text_of t values levels)
  pub written : afterwards ≡ buffer_after (write_of t values levels (length before)) (text_of t values levels) before

-- What a book and a claim without fault 32 are: literals and terms, counted by row, and bytes within the limits of a text, and bytes within the buffer.
pub record TextFits (t : Tables) (values levels : List ℕ) (room : ℕ) : Type 0 where
  pub few_literals : literals_by_row t.rules t.clauses ≤ max_literals
  pub few_terms : terms_by_row t.loads ≤ max_terms
  pub short : length (text_of t values levels) ≤ max_bytes
  pub roomy : length (text_of t values levels) ≤ room
