-- Signed numbers: a minus and the magnitude, or the magnitude alone; how long they are, and how they are put.
-- Assumes nothing.
use Prim.Native.Nat.{ℕ, suc, ◌+◌, ◌≤◌}
use mathlib.Core.Path.{◌≡◌, ap, ◌∙◌}
use mathlib.Core.List.{List, [], ◌∷◌}
use native.Mathlib.Omega.{arith}
use native.Mathlib.Nat.{add-zero}
use lib.IntN.{ℤ, pos, negsuc, nat_abs}
use lib.ListN.{length, set}
use lib.Seq.{sets, set-set}
use lib.Signed.{lt_z}
use mir.Syntax.{Width}
use mir.Val.{SFits, to_z, of_z, bool_byte}
use mir.Facts.{to_z-of_z}
use borrow.Author.Tests.{le-ltb}
use Rattle.format.specs.Forms.{minus, decimal, signed}
use Rattle.printing.specs.internal.Putting.{Puts}
use Rattle.printing.proofs.PutLaws.{puts_byte, puts_then}
use Rattle.printing.proofs.DecimalLaws.{length_some}

-- 1 if a number is below zero, else 0.
abbrev pub sign : ℤ → ℕ
sign z = bool_byte (lt_z z (pos 0))

length_by_sign : (z : ℤ) → length (signed z) ≡ sign z + length (decimal (nat_abs z))
unfolding signed
length_by_sign (pos n) = rw (le-ltb n 0 (omega arith)) (omega arith)
length_by_sign (negsuc n) = omega arith

-- A sign is one byte more at most.
pub signed_length : (z : ℤ) → length (signed z) ≤ 1 + length (decimal (nat_abs z))
unfolding signed
signed_length (pos n) = omega arith
signed_length (negsuc n) = omega arith

-- The code takes the sign, and the magnitude, of a number as it reads it back from its bits.
pub signed_long : {w : Width} {z : ℤ} → SFits w z → length (signed z) ≡ sign (to_z w (of_z w z)) + length (decimal (nat_abs z))
signed_long {z = z} fits = rw (to_z-of_z fits) (length_by_sign z)

pub magnitude_is : {w : Width} {z : ℤ} {n : ℕ} → SFits w z → n ≡ nat_abs (to_z w (of_z w z)) → n ≡ nat_abs z
magnitude_is fits e = rw (to_z-of_z fits) at e

-- What lies under bytes that are put does not matter.
sets_again : (l : List ℕ) (i x : ℕ) (a : List ℕ) → 1 ≤ length a → sets (set l i x) i a ≡ sets l i a
sets_again l i x [] h = absurd (omega arith)
sets_again l i x (y ∷ a) h = ap (λ (m : List ℕ). sets m (suc i) a) (set-set l i x y)

-- A minus stays before the digits of a number below zero, and lies under the first digit of any other.
puts_by_sign :
    (z : ℤ) {l r : List ℕ} {at end : ℕ} → Puts (set l at minus) (at + sign z) (decimal (nat_abs z)) end r → Puts l at (signed z) end r
unfolding signed
puts_by_sign (pos n) {l} {r} {at} p =
    let plain = rw (le-ltb n 0 (omega arith), add-zero at) at p in
    record { answered = plain.answered; stored = plain.stored ∙ sets_again l at minus (decimal n) (length_some n) }
puts_by_sign (negsuc n) {l} {r} {at} p = puts_then (puts_byte l at minus) p

pub puts_signed :
    {w : Width} {z : ℤ} {l r : List ℕ} {at end magnitude : ℕ} → SFits w z → magnitude ≡ nat_abs z →
    Puts (set l at minus) (at + sign (to_z w (of_z w z))) (decimal magnitude) end r → Puts l at (signed z) end r
puts_signed {z = z} fits e p = puts_by_sign z (rw (to_z-of_z fits, e) at p)
