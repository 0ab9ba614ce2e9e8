-- What the writer's answer, and the reader's behind it, come to for `rewrite`.
-- Assumes nothing.
use Prim.Native.Nat.{ℕ, ◌-◌}
use mathlib.Core.Path.{◌≡◌, refl, sym, ap, ◌∙◌}
use mathlib.Core.List.{List}
use native.Mathlib.Omega.{arith}
use native.Mathlib.Nat.{sub-zero}
use lib.ListN.{length, get_or, take}
use mir.Syntax.{w8, w16}
use mir.Val.{Fits}
use Rattle.std.specs.declared.result.Result.TheVariants.{Ok, Err}
use Rattle.tables.specs.declared.Refusal.{Refusal}
use Rattle.tables.specs.Faults.{Verdict}
use Rattle.tables.specs.Sound.{Tables}
use Rattle.tables.proofs.Faults.{refused_accepted}
use Rattle.judging.specs.Judging.{max_bytes}
use Rattle.forms.specs.Contents.{Contents}
use Rattle.booktext.specs.declared.Book.{Book}
use Rattle.booktext.specs.Answers.{answer_of, Reads}
use Rattle.writing.specs.Writing.{write_of, Written, verdict_in, length_in, Writes}
use Rattle.roundtrips.specs.RoundTrips.{Writable, Rewrites}
use Rattle.roundtrips.proofs.Written.{written_verdict, written_front}
use Rattle.roundtrips.proofs.Theorems.{written_read}

-- The book by which a verdict of the writer is told; an accepted one is told by the reader, whatever stands here.
told_by : Book → Verdict → Book
told_by other (Ok nothing) = other
told_by other (Err refusal) = answer_of (Err refusal)

module _
    (t : Tables) (values levels : List ℕ) {before after : List ℕ} {written : Written} (long : length before ≡ max_bytes)
    (w : Writes t values levels before written after) where
  -- The verdict is the one for a buffer of the longest text.
  judged : {verdict : Verdict} → verdict_in written ≡ verdict → write_of t values levels max_bytes ≡ verdict
  judged told = rw long at (sym (written_verdict w) ∙ told)

  pub rewrite_refused :
      {refusal : Refusal} {held : Contents} {book : Book} → written ≡ Err refusal → book ≡ answer_of (Err refusal) → Rewrites t values levels held book held
  unfolding told_by
  rewrite_refused {book = book} is answered =
      let told = ap verdict_in is in
      record {
        refused = λ f p e. (answered ∙ ap (told_by book) (sym (judged told) ∙ e), refl);
        read = λ e. absurd (refused_accepted (sym (judged told) ∙ e));
        back = λ e holds. absurd (refused_accepted (sym (judged told) ∙ e));
      }

  -- The text is lent to the reader as the part from 0 on.
  pub rewrite_read :
      {long : ℕ} {held tables : Contents} {book : Book} → written ≡ Ok long →
      ((atom : ℕ) → Fits w8 (get_or values atom 0)) → ((atom : ℕ) → Fits w16 (get_or levels atom 0)) →
      Reads (take (long - 0) after) held book tables → Rewrites t values levels held book tables
  rewrite_read is small low r =
      let told = ap verdict_in is in
      let writable : Writable values levels = record { small = λ atom. omega (arith, small atom); low = λ atom. omega (arith, low atom) } in
      let part = rw (← ap length_in is) at (simp sub-zero at r) in
      record {
        refused = λ f p e. absurd (refused_accepted (sym e ∙ judged told));
        read = λ e. rw (written_front w (sym (written_verdict w) ∙ told)) at part;
        back = λ e holds. written_read w told writable holds part;
      }
