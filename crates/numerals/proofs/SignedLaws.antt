-- Laws of signed numbers read at an offset: they are made of the number there, or of the one after a minus.
-- Assumes nothing.
use Prim.Native.Nat.{ℕ, zero, suc, ◌+◌, ◌≤◌}
use mathlib.Core.Path.{◌≡◌, refl, sym, ◌∙◌}
use mathlib.Core.Bool.{true, false, cond}
use mathlib.Core.List.{List, [], ◌∷◌}
use native.Mathlib.Numerals.{add-one}
use native.Mathlib.Omega.{arith}
use lib.ListN.{drop}
use lib.Seq.{drop-cons}
use lib.Dec.{eqb}
use Rattle.std.specs.Prelude.{Option, None, Some}
use lib.IntN.{ℤ, pos, neg_ℤ, ◌-ℤ◌, +ℤ_idl}
use borrow.Author.Tests.{eq-eqb, ne_eqb}
use mir.Syntax.{w32}
use mir.Val.{SFits}
use Rattle.tables.proofs.Signs.{magnitude_negated, magnitude_fits}
use Rattle.wellfounded.proofs.Tests.{both, clash}
use Rattle.format.specs.Parse.{Reading, got, refused, and_then, read_number, as_negative, read_signed}
use Rattle.format.specs.Forms.{minus}
use Rattle.format.specs.Words.{starts_with, word_at}
use Rattle.format.proofs.KindLaws.{byte_here, byte_inside}
use Rattle.numerals.specs.internal.Offsets.{beyond_limits, capped, answered, read_at, number_at, clamped, signed_at}
use Rattle.numerals.proofs.OffsetLaws.{read_some}
use Rattle.numerals.proofs.CappedLaws.{capped_limit, capped_zero}

-- The signed number that a number is, and the one that it is after a minus.
unfoldable pub plain : Option (ℕ × ℕ) → Option (ℤ × ℕ)
plain (Some (value, next)) = Some (pos value, next)
plain None = None

unfoldable pub negated : Option (ℕ × ℕ) → Option (ℤ × ℕ)
negated (Some (value, next)) = cond (eqb value 0) None (Some (neg_ℤ (pos value), next))
negated None = None

module _ (n : Option (ℕ × ℕ)) where
  pub plain_read : (value next : ℕ) → n ≡ Some (value, next) → plain n ≡ Some (pos value, next)
  unfolding plain
  plain_read value next e = rw e

  pub plain_refused : n ≡ None → plain n ≡ None
  unfolding plain
  plain_refused e = rw e

  pub negated_read : (value next : ℕ) → n ≡ Some (value, next) → (value ≡ 0 → ⊥) → negated n ≡ Some (neg_ℤ (pos value), next)
  unfolding negated
  negated_read value next e some = rw (e, ne_eqb value 0 some)

  pub negated_zero : (value next : ℕ) → n ≡ Some (value, next) → value ≡ 0 → negated n ≡ None
  unfolding negated
  negated_zero value next e none = rw (e, eq-eqb value 0 none)

  pub negated_refused : n ≡ None → negated n ≡ None
  unfolding negated
  negated_refused e = rw e

pub below_zero : (n : ℕ) → pos 0 -ℤ pos n ≡ neg_ℤ (pos n)
below_zero n = +ℤ_idl (neg_ℤ (pos n))

pub below_zero_fits : (n : ℕ) → n ≤ beyond_limits → SFits w32 (pos 0 -ℤ pos n)
below_zero_fits n l = rw (below_zero n) (magnitude_fits _ (omega (arith, magnitude_negated (pos n))))

module _ (text : List ℕ) where
  plain_answer : (r : Reading ℕ) → answered clamped text (and_then r (λ n rest. got (pos n) rest)) ≡ plain (answered capped text r)
  unfolding and_then clamped answered plain
  plain_answer (got n rest) = refl
  plain_answer refused = refl

  negated_answer : (r : Reading ℕ) → answered clamped text (and_then r as_negative) ≡ negated (answered capped text r)
  unfolding and_then as_negative clamped answered negated
  negated_answer (got zero rest) = rw (capped_zero 0)
  negated_answer (got (suc n) rest) = rw (capped_zero (suc n), ne_eqb (suc n) 0 (omega arith))
  negated_answer refused = refl

  plain_bytes :
      (bs : List ℕ) → starts_with (minus ∷ []) bs ≡ false → answered clamped text (read_signed bs) ≡ plain (answered capped text (read_number bs))
  unfolding read_signed starts_with and_then read_number
  plain_bytes [] f = plain_answer refused
  plain_bytes (b ∷ bs) f =
      rw (ne_eqb b minus (λ e. clash (both (eqb minus b) true (eq-eqb minus b (sym e)) refl) f)) (plain_answer (read_number (b ∷ bs)))

-- The signed number at an offset, by the number there or after the minus.
module _ (text : List ℕ) (at : ℕ) where
  pub signed_plain : word_at text at (minus ∷ []) ≡ false → signed_at text at ≡ plain (number_at text at)
  unfolding read_at word_at
  signed_plain f = plain_bytes text (drop at text) f

  pub signed_negated : word_at text at (minus ∷ []) ≡ true → signed_at text at ≡ negated (number_at text (at + 1))
  unfolding read_at read_signed
  signed_negated t =
      let l = byte_inside text at minus t in
      rw (add-one, drop-cons text at 0 l, sym (byte_here text at minus l) ∙ t) (negated_answer text (read_number (drop (suc at) text)))

-- No number that is read is above the limit.
pub number_limit : (text : List ℕ) (at value next : ℕ) → number_at text at ≡ Some (value, next) → value ≤ beyond_limits
number_limit text at value next e = let a = read_some capped read_number text at e in omega (arith, a.3, capped_limit a.0)
