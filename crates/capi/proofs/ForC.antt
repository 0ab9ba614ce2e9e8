-- What the C calls of the reader, the writer, the index and the maker that follows it promise is what `read`, `write`, `index` and `evaluate_indexed`
-- do, so that what is proved of these holds of them, both round trips among it; and both makers' calls promise the same where the book has an index and
-- the lengths are right.
-- Assumes nothing.
use Prim.Native.Nat.{ℕ}
use mathlib.Core.Path.{◌≡◌, refl, subst, ◌∙◌}
use mathlib.Core.Bool.{true}
use mathlib.Core.List.{List}
use lib.ListN.{length}
use Rattle.tables.specs.Rows.{rule_count}
use Rattle.tables.specs.Sound.{Tables}
use Rattle.evaluator.specs.Evaluate.{Evaluation, evaluate_of}
use Rattle.judging.specs.Judging.{judge_text}
use Rattle.forms.specs.Contents.{Contents}
use Rattle.booktext.specs.Answers.{space_of, answer_of, Reads}
use Rattle.indexing.specs.Index.{index_verdict, Indexes, IndexFits}
use Rattle.indexed.specs.EvaluateIndexed.{IndexedSlices, evaluate_indexed_of, EvaluatesIndexed}
use Rattle.indexed.proofs.Theorems.{both_makers}
use Rattle.writing.specs.BookForms.{text_of}
use Rattle.writing.specs.Writing.{write_of, written_of, Writes}
use Rattle.capi.specs.Packing.{EvaluatedForC, EvaluatedIndexedForC, eight_places, ReadForC, WrittenForC, IndexedForC}

-- A call of the writer from C leaves the buffer that `write` leaves, with the answer that C is told packed.
pub written_for_c :
    {t : Tables} {values levels before after : List ℕ} {answer : ℕ} → WrittenForC t values levels before answer after →
    Writes t values levels before (written_of (write_of t values levels (length before)) (text_of t values levels)) after
written_for_c w = record { answered = refl; written = w.written }

-- A call of the reader from C with eight places leaves the tables that `read` leaves.
pub read_for_c :
    {text places placesAfter : List ℕ} {before after : Contents} {answer : ℕ} → eight_places places ≡ true →
    ReadForC text before places answer after placesAfter → Reads text before (answer_of (judge_text (space_of before) text)) after
read_for_c eight r = record { answered = refl; written = r.written ∙ rw eight }

-- A call of the index from C leaves the slices that `index` leaves.
pub indexed_for_c :
    {t : Tables} {starts entries startsAfter entriesAfter : List ℕ} {answer : ℕ} → IndexedForC t starts entries answer startsAfter entriesAfter →
    Indexes t starts entries (index_verdict t (length starts) (length entries)) startsAfter entriesAfter
indexed_for_c i = record { answered = refl; starts_built = i.starts_built; entries_built = i.entries_built }

module _ {t : Tables} {s : IndexedSlices} {answer : ℕ} {values levels work starts entries counts : List ℕ} where
  -- A call from C of the maker that follows the index leaves the slices that `evaluate_indexed` leaves, with the answer that C is told packed.
  pub evaluated_indexed_for_c :
      EvaluatedIndexedForC t s answer values levels work starts entries counts →
      EvaluatesIndexed t s (evaluate_indexed_of t s).verdict (evaluate_indexed_of t s).rounds values levels work starts entries counts
  evaluated_indexed_for_c e =
      record {
        evaluation =
            record {
              verdict_is = refl;
              rounds_is = refl;
              values_is = e.evaluated.values_is;
              levels_is = e.evaluated.levels_is;
              work_is = e.evaluated.work_is;
            };
        left = e.left;
      }

  -- With slices as long as the index and a count for each rule row, it promises of the answer, the values, the levels and the work what the plain
  -- maker's call promises, whatever the tables and the open values hold.
  pub both_makers_for_c :
      IndexFits t (length s.starts) (length s.entries) → length s.counts ≡ rule_count t.rules →
      EvaluatedIndexedForC t s answer values levels work starts entries counts →
      EvaluatedForC (evaluate_of t s.setting s.values s.levels s.work) answer values levels work
  both_makers_for_c fits many e = subst (λ (x : Evaluation). EvaluatedForC x answer values levels work) (both_makers t s fits many) e.evaluated
