-- Laws of the answers for C: how large a packed verdict and a reader's counts are, and the seven counts in their places.
-- Assumes nothing.
use Prim.Native.Nat.{ℕ, ◌+◌, ◌*◌, ◌≤◌, ◌<◌}
use mathlib.Core.Path.{◌≡◌, refl, sym, ap, ◌∙◌}
use mathlib.Core.List.{List, [], ◌∷◌}
use native.Mathlib.Omega.{arith}
use lib.ListN.{length, set}
use borrow.Author.Tests.{eq-eqb, ne_eqb}
use Rattle.std.specs.Prelude.{Result, Ok, Err}
use Rattle.tables.specs.declared.Refusal.{Refusal}
use Rattle.tables.specs.Faults.{Verdict}
use Rattle.tables.specs.Faults.{position_of}
use Rattle.tables.specs.Limits.{max_atoms, max_position}
use Rattle.tables.specs.Sound.{Tables}
use Rattle.tables.proofs.Numbers.{verdict_number}
use Rattle.evaluator.specs.Evaluate.{evaluate_of, Answers}
use Rattle.judging.specs.declared.reached.Reached.{Reached}
use Rattle.judging.specs.declared.reached.Space.{Space}
use Rattle.judging.specs.Judging.{judge_text, max_bytes}
use Rattle.judging.proofs.Counts.{CountsWithin, counts_within_lem}
use Rattle.judging.proofs.Accepted.{accepted_book, accepted_size}
use Rattle.forms.specs.Contents.{Contents}
use Rattle.booktext.specs.declared.StateForm.{StateForm}
use Rattle.booktext.specs.declared.StateForm.TheVariants.{NoState, OpenState, ClaimState}
use Rattle.booktext.specs.declared.Book.{Book}
use Rattle.booktext.specs.Answers.{space_of, state_number, answer_of, Reads}
use Rattle.evaluator.proofs.Positions.{evaluate_position, evaluate_rounds}
use Rattle.booktext.proofs.Positions.{text_position}
use Rattle.indexed.specs.EvaluateIndexed.{IndexedSlices, EvaluatesIndexed}
use Rattle.indexed.proofs.Theorems.{indexed_position, indexed_rounds}
use Rattle.writing.specs.Writing.{write_of, Written, verdict_in, Writes}
use Rattle.writing.proofs.WriteLaws.{promised_as, verdict_as}
use Rattle.writing.proofs.Theorems.{written_position, written_length}
use Rattle.capi.specs.Packing.{packed, packed_with, counts_of, no_answer, EvaluatedForC, EvaluatedIndexedForC, seven_places, ReadForC, WrittenForC}
use Rattle.capi.specs.internal.Counts.{WithinBook}

-- ── Packed verdicts ──

-- A packed verdict is below 100 × 65,536.
pub packed_small : (verdict : Verdict) → position_of verdict ≤ max_position → packed verdict < 6553600
unfolding packed
packed_small verdict l = omega (arith, verdict_number verdict)

-- ── The maker ──

module _
    (t : Tables) (setting values levels work : List ℕ) {verdict : Verdict} {rounds : ℕ} {valuesAfter levels_after work_after : List ℕ}
    (a : Answers (evaluate_of t setting values levels work) verdict rounds valuesAfter levels_after work_after) where
  -- Its rounds and its verdict's position are small.
  pub made_small : (position_of verdict ≤ max_position) × (rounds ≤ max_atoms)
  made_small = (rw a.verdict_is (evaluate_position t setting values levels work), rw a.rounds_is (evaluate_rounds t setting values levels work))

  pub made_packed :
      (code : ℕ) → code ≡ packed verdict →
      EvaluatedForC (evaluate_of t setting values levels work) (rounds * 4294967296 + code) valuesAfter levels_after work_after
  unfolding packed_with
  made_packed code packs =
      record { answered = rw (packs, a.verdict_is, a.rounds_is); values_is = a.values_is; levels_is = a.levels_is; work_is = a.work_is }

-- ── The maker that follows the index ──

module _
    (t : Tables) (s : IndexedSlices) {verdict : Verdict} {rounds : ℕ} {values levels work starts entries counts : List ℕ}
    (e : EvaluatesIndexed t s verdict rounds values levels work starts entries counts) where
  -- Its rounds and its verdict's position are small too.
  pub followed_small : (position_of verdict ≤ max_position) × (rounds ≤ max_atoms)
  followed_small = (rw e.evaluation.verdict_is (indexed_position t s), rw e.evaluation.rounds_is (indexed_rounds t s))

  pub followed_packed :
      (code : ℕ) → code ≡ packed verdict →
      EvaluatedIndexedForC t s (rounds * 4294967296 + code) values levels work starts entries counts
  unfolding packed_with
  followed_packed code packs =
      let a = e.evaluation in
      record {
        evaluated = record { answered = rw (packs, a.verdict_is, a.rounds_is); values_is = a.values_is; levels_is = a.levels_is; work_is = a.work_is };
        left = e.left;
      }

-- ── The writer ──

module _
    (t : Tables) (values levels before : List ℕ) {answer : Written} {afterwards : List ℕ}
    (w : Writes t values levels before answer afterwards) where
  told : verdict_in answer ≡ write_of t values levels (length before)
  told = verdict_as (promised_as w)

  -- A length that it answers is small, and packed it is the answer for C,
  pub length_small : (long : ℕ) → answer ≡ Ok long → long ≤ max_bytes
  length_small long e = rw (sym w.answered ∙ e) at (written_length t values levels (length before))

  pub length_packed : (long : ℕ) → answer ≡ Ok long → WrittenForC t values levels before (long * 4294967296) afterwards
  unfolding packed_with packed
  length_packed long e = record { answered = rw (sym w.answered ∙ e, sym told ∙ ap verdict_in e) (omega arith); written = w.written }

  -- and so are the position of a refusal, and the refusal packed.
  pub refusal_small : (r : Refusal) → answer ≡ Err r → position_of (Err r) ≤ max_position
  refusal_small r e = rw (sym told ∙ ap verdict_in e) at (written_position t values levels (length before))

  pub refusal_packed : (r : Refusal) (code : ℕ) → answer ≡ Err r → code ≡ packed (Err r) → WrittenForC t values levels before code afterwards
  unfolding packed_with
  refusal_packed r code e packs = record { answered = rw (packs, sym w.answered ∙ e, sym told ∙ ap verdict_in e) (omega arith); written = w.written }

-- ── The reader's counts ──

-- Whatever a text is judged to be, its counts are within the limits of a book.
pub answer_within : (space : Space) (text : List ℕ) → WithinBook (answer_of (judge_text space text))
unfolding answer_of
answer_within space text = step (judge_text space text) refl
  where
    step : (j : Result Reached Refusal) → judge_text space text ≡ j → WithinBook (answer_of j)
    step (Ok s) e =
        let found = accepted_book space text s e in
        let counts : CountsWithin s = rw found.2 (counts_within_lem _ found.1.book.counts) in
        record {
          atoms = accepted_size space text s e;
          rules = counts.rules;
          literals = counts.literals;
          clauses = counts.clauses;
          loads = counts.loads;
          terms = counts.terms;
        }
    step (Err why) e =
        record { atoms = omega arith; rules = omega arith; literals = omega arith; clauses = omega arith; loads = omega arith; terms = omega arith }

module _ {text : List ℕ} {before : Contents} {book : Book} {afterwards : Contents} (r : Reads text before book afterwards) where
  pub read_within : WithinBook book
  read_within = rw r.answered (answer_within (space_of before) text)

  pub read_position : position_of book.verdict ≤ max_position
  read_position = rw r.answered (text_position (space_of before) text)

-- ── Seven places ──

pub state_small : (state : StateForm) → state_number state ≤ 2
state_small NoState = omega arith
state_small OpenState = omega arith
state_small ClaimState = omega arith

-- Seven stores into seven places leave the seven values.
pub seven_stored :
    (l : List ℕ) → length l ≡ 7 → (a b c d e f g : ℕ) →
    set (set (set (set (set (set (set l 0 a) 1 b) 2 c) 3 d) 4 e) 5 f) 6 g ≡ a ∷ b ∷ c ∷ d ∷ e ∷ f ∷ g ∷ []
seven_stored [] h a b c d e f g = absurd (omega (arith, h))
seven_stored (_ ∷ []) h a b c d e f g = absurd (omega (arith, h))
seven_stored (_ ∷ _ ∷ []) h a b c d e f g = absurd (omega (arith, h))
seven_stored (_ ∷ _ ∷ _ ∷ []) h a b c d e f g = absurd (omega (arith, h))
seven_stored (_ ∷ _ ∷ _ ∷ _ ∷ []) h a b c d e f g = absurd (omega (arith, h))
seven_stored (_ ∷ _ ∷ _ ∷ _ ∷ _ ∷ []) h a b c d e f g = absurd (omega (arith, h))
seven_stored (_ ∷ _ ∷ _ ∷ _ ∷ _ ∷ _ ∷ []) h a b c d e f g = absurd (omega (arith, h))
seven_stored (_ ∷ _ ∷ _ ∷ _ ∷ _ ∷ _ ∷ _ ∷ []) h a b c d e f g = refl
seven_stored (_ ∷ _ ∷ _ ∷ _ ∷ _ ∷ _ ∷ _ ∷ _ ∷ l) h a b c d e f g = absurd (omega (arith, h))

-- With seven places the reader's call answers for the reader, and with any other number it writes nothing.
module _ {text : List ℕ} {before : Contents} {answer : List ℕ} where
  pub read_answers :
      {book : Book} {afterwards : Contents} {code : ℕ} {answerAfter : List ℕ} → length answer ≡ 7 → Reads text before book afterwards →
      code ≡ packed book.verdict → answerAfter ≡ counts_of book → ReadForC text before answer code afterwards answerAfter
  unfolding seven_places
  read_answers seven r packs counts =
      let is = eq-eqb (length answer) 7 seven in
      record { answered = rw (is, ← r.answered) packs; counts = rw (is, ← r.answered) counts; written = rw is r.written }

  pub read_unanswered : (length answer ≡ 7 → ⊥) → ReadForC text before answer no_answer before answer
  unfolding seven_places
  read_unanswered other = let is = ne_eqb (length answer) 7 other in record { answered = rw is; counts = rw is; written = rw is }
