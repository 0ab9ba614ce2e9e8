-- What the writer promises: statements about `write_of`, the definition that the contract of `write` cites. `t` is any content of the lent
-- tables, sound or not, and `room` the length of the buffer.
-- Assumes nothing.
use Prim.Native.Nat.{ℕ, ◌≤◌}
use mathlib.Core.Path.{◌≡◌, refl, ap, ◌∙◌}
use mathlib.Core.Logic.{◌↔◌, ◌⊎◌, inl, inr, ⊎_elim}
use mathlib.Core.Bool.{Bool, true, not, ◌&&◌, ◌||◌}
use mathlib.Core.List.Memᴰ
use mathlib.Core.List.{List}
use native.Mathlib.Omega.{arith}
use lib.Dec.{eqb, leb}
use lib.ListN.{length}
use borrow.Author.Tests.{eqb-true, leb-true, le-leb, not-false}
use Rattle.wellfounded.specs.Lists.{all}
use Rattle.wellfounded.proofs.Tests.{both, first, second, either}
use Rattle.tables.specs.declared.Fault.{Fault}
use Rattle.std.specs.declared.result.Result.TheVariants.{Ok, Err}
use Rattle.tables.specs.Faults.{Verdict, accepted, refused}
use Rattle.tables.specs.Limits.{max_literals, max_position}
use Rattle.tables.specs.Faults.{Absent, RefusedBy, fault_number, position_of}
use Rattle.tables.specs.Sound.{Tables, claim_slices, table_tests, slice_test, mark_count_test, mark_test, lent_tests, Sound}
use Rattle.tables.proofs.Faults.{absent_none, absent_more, accepted_absent, absent_accepted, first_append, refused_by, by_refused, refused_among}
use Rattle.tables.proofs.Positions.{position_more, position_none, lent_position}
use Rattle.judging.specs.Judging.{max_bytes}
use Rattle.writing.specs.BookForms.{text_of}
use Rattle.writing.specs.Writing.{literals_by_row, rows_fit, bytes_fit, text_test, write_tests, write_of, Written, written_of, buffer_after, Writes, TextFits, length_in}

module _ (t : Tables) (values levels : List ℕ) (room : ℕ) where
  -- 32 does not occur exactly if literals, terms and bytes are within the limits of a text, and the bytes within the buffer.
  pub text_fits : Absent (text_test t values levels room) ↔ TextFits t values levels room
  unfolding text_test rows_fit bytes_fit
  text_fits = (fits, absent)
    where
      fits : Absent (text_test t values levels room) → TextFits t values levels room
      fits a =
          let all = not-false _ (a.nowhere 0 (omega arith)) in
          let rows : rows_fit t.rules t.clauses t.loads ≡ true = first _ _ all in
          let bytes : bytes_fit (length (text_of t values levels)) room ≡ true = second (rows_fit t.rules t.clauses t.loads) _ all in
          record {
            few_literals = leb-true _ _ (first _ _ rows);
            few_terms = leb-true _ _ (second (leb (literals_by_row t.rules t.clauses) max_literals) _ rows);
            short = leb-true _ _ (first _ _ bytes);
            roomy = leb-true _ _ (second (leb (length (text_of t values levels)) max_bytes) _ bytes);
          }

      absent : TextFits t values levels room → Absent (text_test t values levels room)
      absent f =
          record {
            nowhere = λ k l. ap not (both _ _ (both _ _ (le-leb _ _ f.few_literals) (le-leb _ _ f.few_terms)) (both _ _ (le-leb _ _ f.short) (le-leb _ _ f.roomy)));
          }

  -- A text is written exactly if nothing that is lent has a fault of 11 to 17 or of 31, and 32 does not occur.
  pub written_exactly : (write_of t values levels room ≡ accepted) ↔ (Sound t (claim_slices t values levels) × TextFits t values levels room)
  unfolding write_of write_tests
  written_exactly = (taken, make)
    where
      taken : write_of t values levels room ≡ accepted → Sound t (claim_slices t values levels) × TextFits t values levels room
      taken e =
          let none = accepted_absent (write_tests t values levels room) e in (
            record { none = λ test m. none test (Memᴰ.append_left _ m) },
            text_fits.0 (none _ (Memᴰ.append_right (lent_tests t (claim_slices t values levels)) (Memᴰ.head refl))),
          )

      make : Sound t (claim_slices t values levels) × TextFits t values levels room → write_of t values levels room ≡ accepted
      make h =
          first_append (lent_tests t (claim_slices t values levels)) _ (absent_accepted _ h.0.none)
          ∙ absent_accepted _ (absent_more (text_fits.1 h.1) absent_none)

  -- Refused with a fault at a position exactly if that fault's test fails there, at no lower position, and no fault earlier in the list
  -- `write_tests` occurs.
  pub refused_exactly :
      (fault : Fault) (position : ℕ) →
      (write_of t values levels room ≡ refused fault position) ↔ RefusedBy (write_tests t values levels room) fault position
  unfolding write_of
  refused_exactly fault position = (refused_by (write_tests t values levels room) fault position, by_refused (write_tests t values levels room) fault position)

  -- No position is above the limit of one, and no length above that of a text.
  pub written_position : position_of (write_of t values levels room) ≤ max_position
  unfolding write_of write_tests text_test
  written_position = lent_position t _ _ (λ z. position_more _ _ (omega arith) (λ a. position_none))

  pub written_length : length_in (written_of (write_of t values levels room) (text_of t values levels)) ≤ max_bytes
  unfolding written_of
  written_length = by (write_of t values levels room) (λ e. (written_exactly.0 e).1.short)
    where
      by : (v : Verdict) → (v ≡ accepted → length (text_of t values levels) ≤ max_bytes) → length_in (written_of v (text_of t values levels)) ≤ max_bytes
      by (Ok nothing) short = short refl
      by (Err refusal) short = omega arith

-- A refused call of `write` writes nothing and tells the length 0.
pub refused_tells_nothing :
    {t : Tables} {values levels before : List ℕ} {answer : Written} {afterwards : List ℕ} {fault : Fault} {position : ℕ} →
    Writes t values levels before answer afterwards → write_of t values levels (length before) ≡ refused fault position →
    (length_in answer ≡ 0) × (afterwards ≡ before)
unfolding written_of buffer_after
refused_tells_nothing {t} {values} {levels} {before} w e = (
  ap length_in (w.answered ∙ ap (λ v. written_of v (text_of t values levels)) e),
  w.written ∙ ap (λ v. buffer_after v (text_of t values levels) before) e,
)

-- A refusal of the writer has a number of 11 to 17, 31 or 32; so none judges a value or a level (21, 22).
abbrev writers_fault : Fault → Bool
writers_fault fault = (leb 11 (fault_number fault) && leb (fault_number fault) 17) || (eqb (fault_number fault) 31 || eqb (fault_number fault) 32)

pub written_faults :
    (t : Tables) (values levels : List ℕ) (room : ℕ) (fault : Fault) (position : ℕ) → write_of t values levels room ≡ refused fault position →
    ((11 ≤ fault_number fault) × (fault_number fault ≤ 17)) ⊎ ((fault_number fault ≡ 31) ⊎ (fault_number fault ≡ 32))
unfolding write_of write_tests lent_tests table_tests slice_test mark_count_test mark_test text_test all
written_faults t values levels room fault position e =
    let n = fault_number fault in
    ⊎_elim (λ low. inl (leb-true 11 n (first (leb 11 n) _ low), leb-true n 17 (second (leb 11 n) _ low)))
    (λ high. inr (⊎_elim (λ m. inl (eqb-true n 31 m)) (λ x. inr (eqb-true n 32 x)) (either (eqb n 31) (eqb n 32) high)))
    (either (leb 11 n && leb n 17) (eqb n 31 || eqb n 32) (refused_among writers_fault (write_tests t values levels room) refl fault position e))
