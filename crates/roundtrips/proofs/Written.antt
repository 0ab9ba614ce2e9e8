-- What an answer of the writer tells of its verdict and of the text.
-- Assumes nothing.
use Prim.Native.Nat.{ℕ, ◌≤◌}
use mathlib.Core.Path.{◌≡◌, refl}
use mathlib.Core.List.{List}
use lib.ListN.{length, take}
use Rattle.tables.specs.Faults.{accepted}
use Rattle.tables.specs.Sound.{Tables}
use Rattle.judging.specs.Judging.{max_bytes}
use Rattle.forms.proofs.OverLaws.{over_front}
use Rattle.writing.specs.BookForms.{text_of}
use Rattle.writing.specs.Writing.{write_of, Written, written_of, verdict_in, length_in, buffer_after, Writes}
use Rattle.writing.proofs.WriteLaws.{promised_as, verdict_as}
use Rattle.writing.proofs.Theorems.{written_length}

module _ {t : Tables} {values levels before after : List ℕ} {written : Written} (w : Writes t values levels before written after) where
  pub written_verdict : verdict_in written ≡ write_of t values levels (length before)
  written_verdict = verdict_as (promised_as w)

  -- The text stands at the front of the buffer, in the length that is answered.
  pub written_front : write_of t values levels (length before) ≡ accepted → take (length_in written) after ≡ text_of t values levels
  unfolding written_of buffer_after
  written_front e = rw (w.answered, w.written, e) (over_front (text_of t values levels) before (length (text_of t values levels)) refl)

  -- Whatever the verdict, the length is within a buffer of the longest text.
  pub written_within : length_in written ≤ max_bytes
  written_within = rw w.answered (written_length t values levels (length before))
