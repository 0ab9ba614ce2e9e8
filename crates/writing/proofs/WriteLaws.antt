-- The verdict of a call of the writer, test by test, and what is answered and left for it.
-- Assumes nothing.
use Prim.Native.Nat.{ℕ, ◌*◌, ◌≤◌}
use mathlib.Core.Path.{◌≡◌, refl, ap, ◌∙◌}
use mathlib.Core.Bool.{true, false, not, ◌&&◌}
use mathlib.Core.List.{List, [], ◌∷◌}
use native.Mathlib.Omega.{arith}
use lib.Dec.{leb}
use lib.ListN.{length}
use borrow.Author.Tests.{leb-true}
use Rattle.std.specs.Prelude.{IsErrAnd}
use Rattle.std.specs.declared.result.Result.TheVariants.{Ok, Err}
use Rattle.wellfounded.proofs.Tests.{both, second, and_left, and_right}
use Rattle.tables.specs.declared.Refusal.{Refusal}
use Rattle.tables.specs.declared.Fault.TheVariants.{TextSize}
use Rattle.tables.specs.Faults.{Verdict, accepted, refused}
use Rattle.tables.specs.Faults.{first_fault}
use Rattle.tables.specs.Rows.{group_count}
use Rattle.tables.specs.Sound.{Tables}
use Rattle.tables.proofs.GroupLaws.{one_group}
use Rattle.tables.proofs.Faults.{first_passes, first_fails, once_passes, once_fails}
use Rattle.judging.specs.Judging.{max_bytes}
use Rattle.forms.proofs.OverLaws.{sets_front}
use Rattle.printing.specs.internal.Putting.{Puts}
use Rattle.writing.specs.BookForms.{text_of}
use Rattle.writing.specs.Writing.{rows_fit, bytes_fit, text_test, write_of, Written, written_of, verdict_in, buffer_after, Writes}
use Rattle.writing.specs.internal.Answered.{WritesAs}

-- As there is one group of rules so far, a claim has a level for each atom.
pub one_sized : (rules : List ℕ) (atoms : ℕ) → group_count rules * atoms ≡ atoms
one_sized rules atoms = rw one_group (omega arith)

-- ── What is answered and left ──

-- A refusal is answered, and leaves the buffer alone.
pub refused_writes :
    {verdict : Verdict} {r : Refusal} (text held : List ℕ) (answer : Written) → verdict ≡ Err r → IsErrAnd answer (λ e. e ≡ r) →
    WritesAs verdict text held answer held
unfolding written_of buffer_after
refused_writes text held (Ok long) e same = absurd same
refused_writes text held (Err told) e same = rw e (record { answered = ap Err same; written = refl })

-- A text that is within the buffer is put at its front, and its length is answered.
pub accepted_writes :
    {verdict : Verdict} {text held after : List ℕ} {long end : ℕ} → verdict ≡ accepted → long ≡ length text → length text ≤ length held →
    Puts held 0 text end after → WritesAs verdict text held (Ok long) after
unfolding written_of buffer_after
accepted_writes {text = text} {held = held} e is room p = rw (e, is) (record { answered = refl; written = p.stored ∙ sets_front held text room })

-- What is promised of a call is that for its own verdict and text.
module _ {t : Tables} {values levels before after : List ℕ} {answer : Written} where
  pub as_promised : WritesAs (write_of t values levels (length before)) (text_of t values levels) before answer after → Writes t values levels before answer after
  as_promised w = record { answered = w.answered; written = w.written }

  pub promised_as : Writes t values levels before answer after → WritesAs (write_of t values levels (length before)) (text_of t values levels) before answer after
  promised_as w = record { answered = w.answered; written = w.written }

-- An answer tells its verdict.
pub verdict_told : (verdict : Verdict) (text : List ℕ) → verdict_in (written_of verdict text) ≡ verdict
unfolding written_of
verdict_told (Ok nothing) text = refl
verdict_told (Err refusal) text = refl

pub verdict_as : {verdict : Verdict} {text before after : List ℕ} {answer : Written} → WritesAs verdict text before answer after → verdict_in answer ≡ verdict
verdict_as {verdict} {text} w = ap verdict_in w.answered ∙ verdict_told verdict text

-- ── The verdict ──

module _ (t : Tables) (values levels : List ℕ) (room : ℕ) where
  text_refuses :
      (rows_fit t.rules t.clauses t.loads && bytes_fit (length (text_of t values levels)) room) ≡ false →
      first_fault (text_test t values levels room ∷ []) ≡ refused TextSize 0
  unfolding text_test
  text_refuses e = first_fails _ [] 0 (once_fails _ (ap not e))

  pub rows_refuse : rows_fit t.rules t.clauses t.loads ≡ false → first_fault (text_test t values levels room ∷ []) ≡ refused TextSize 0
  rows_refuse e = text_refuses (and_left _ _ e)

  pub bytes_refuse : bytes_fit (length (text_of t values levels)) room ≡ false → first_fault (text_test t values levels room ∷ []) ≡ refused TextSize 0
  bytes_refuse e = text_refuses (and_right (rows_fit t.rules t.clauses t.loads) _ e)

  pub text_accepts :
      rows_fit t.rules t.clauses t.loads ≡ true → bytes_fit (length (text_of t values levels)) room ≡ true →
      first_fault (text_test t values levels room ∷ []) ≡ accepted
  unfolding text_test first_fault
  text_accepts rows bytes = first_passes _ [] (once_passes _ (ap not (both _ _ rows bytes)))

  -- Bytes that fit are within the buffer.
  pub bytes_within : bytes_fit (length (text_of t values levels)) room ≡ true → length (text_of t values levels) ≤ room
  unfolding bytes_fit
  bytes_within fit = leb-true _ _ (second (leb (length (text_of t values levels)) max_bytes) _ fit)
