-- Number and position can be told from every packed verdict of a call, and none is taken for "no answer".
-- Assumes nothing.
use Prim.Native.Nat.{ℕ, ◌/◌, ◌%◌, ◌≤◌}
use mathlib.Core.Path.{◌≡◌}
use mathlib.Core.List.{List}
use native.Mathlib.Omega.{arith}
use Rattle.tables.specs.Faults.{Verdict}
use Rattle.tables.specs.Limits.{max_position}
use Rattle.tables.specs.Faults.{position_of}
use Rattle.tables.specs.Sound.{Tables}
use Rattle.tables.proofs.Numbers.{verdict_number}
use Rattle.checker.specs.Check.{check_of}
use Rattle.checker.proofs.Positions.{check_position}
use Rattle.evaluator.specs.Evaluate.{evaluate_of}
use Rattle.evaluator.proofs.Positions.{evaluate_position}
use Rattle.judging.specs.declared.reached.Space.{Space}
use Rattle.judging.specs.Judging.{judge_text}
use Rattle.booktext.specs.Answers.{answer_of}
use Rattle.booktext.proofs.Positions.{text_position}
use Rattle.outcome.specs.Outcomes.{outcome_of}
use Rattle.outcome.proofs.Bounds.{outcome_position}
use Rattle.indexing.specs.Index.{index_verdict}
use Rattle.indexing.proofs.Theorems.{index_position}
use Rattle.indexed.specs.EvaluateIndexed.{IndexedSlices, evaluate_indexed_of}
use Rattle.indexed.proofs.Theorems.{indexed_position}
use Rattle.writing.specs.Writing.{write_of}
use Rattle.writing.proofs.Theorems.{written_position}
use Rattle.capi.specs.Packing.{packed, packed_with, Unpacks}

-- A verdict whose position has 16 bits unpacks,
pub unpacks : (verdict : Verdict) → position_of verdict ≤ max_position → Unpacks verdict
unfolding packed
unpacks verdict l =
    let n = verdict_number verdict in
    record { number = omega arith; position = omega arith; answers = λ e. omega arith }

-- and so does the verdict of every call: of the check, both makers, a text, the reader, the writer and the index.
pub check_unpacks : (t : Tables) (values levels : List ℕ) → Unpacks (check_of t values levels)
check_unpacks t values levels = unpacks _ (check_position t values levels)

pub evaluate_unpacks : (t : Tables) (setting values levels work : List ℕ) → Unpacks (evaluate_of t setting values levels work).verdict
evaluate_unpacks t setting values levels work = unpacks _ (evaluate_position t setting values levels work)

pub evaluate_indexed_unpacks : (t : Tables) (s : IndexedSlices) → Unpacks (evaluate_indexed_of t s).verdict
evaluate_indexed_unpacks t s = unpacks _ (indexed_position t s)

pub text_unpacks : (text : List ℕ) → Unpacks (outcome_of text).verdict
text_unpacks text = unpacks _ (outcome_position text)

pub read_unpacks : (space : Space) (text : List ℕ) → Unpacks (answer_of (judge_text space text)).verdict
read_unpacks space text = unpacks _ (text_position space text)

pub write_unpacks : (t : Tables) (values levels : List ℕ) (room : ℕ) → Unpacks (write_of t values levels room)
write_unpacks t values levels room = unpacks _ (written_position t values levels room)

pub index_unpacks : (t : Tables) (starts entries : ℕ) → Unpacks (index_verdict t starts entries)
index_unpacks t starts entries = unpacks _ (index_position t starts entries)

-- The rounds, and the length, stand above the packed verdict.
pub count_unpacks :
    (verdict : Verdict) (count : ℕ) → position_of verdict ≤ max_position →
    (packed_with verdict count / 4294967296 ≡ count) × (packed_with verdict count % 4294967296 ≡ packed verdict)
unfolding packed_with packed
count_unpacks verdict count l = let n = verdict_number verdict in (omega arith, omega arith)
