-- Laws of signed numbers: what the test of a sign tells, and magnitudes.
-- Assumes nothing.
use Prim.Native.Nat.{ℕ, zero, suc, ◌+◌, ◌-◌, ◌≤◌, ◌<◌}
use mathlib.Core.Path.{◌≡◌, refl, sym}
use mathlib.Core.Bool.{Bool, true, false, cond, false≢true}
use native.Mathlib.Omega.{arith}
use lib.IntN.{ℤ, pos, negsuc, neg_ℤ, nat_abs, sub_ℕ, ◌+ℤ◌, ◌-ℤ◌, +ℤ_idl}
use lib.Dec.{T, ltb}
use lib.Signed.{lt_z, non_neg}
use mir.Syntax.{Width, w32}
use mir.Val.{SFits, to_z, of_z}
use mir.Facts.{to_z-of_z}
use borrow.Author.Tests.{ltb-true}

negative : (z : ℤ) → lt_z z (pos 0) ≡ true → pos 0 -ℤ z ≡ pos (nat_abs z)
negative (pos n) h = absurd (omega (arith, ltb-true n 0 h))
negative (negsuc n) h = +ℤ_idl (pos (suc n))

not_negative : (z : ℤ) → lt_z z (pos 0) ≡ false → T (non_neg z)
not_negative (pos n) h = tt
not_negative (negsuc n) h = absurd (false≢true (sym h))

-- The code tests a number as it reads it back from its bits.
pub is_negative : {w : Width} {z : ℤ} → SFits w z → lt_z (to_z w (of_z w z)) (pos 0) ≡ true → pos 0 -ℤ z ≡ pos (nat_abs z)
is_negative {z = z} fits h = negative z (rw (to_z-of_z fits) at h)

pub is_not_negative : {w : Width} {z : ℤ} → SFits w z → lt_z (to_z w (of_z w z)) (pos 0) ≡ false → T (non_neg z)
is_not_negative {z = z} fits h = not_negative z (rw (to_z-of_z fits) at h)

pub magnitude_negated : (z : ℤ) → nat_abs (neg_ℤ z) ≡ nat_abs z
magnitude_negated (pos zero) = refl
magnitude_negated (pos (suc n)) = refl
magnitude_negated (negsuc n) = refl

magnitude_difference : (a b : ℕ) → nat_abs (sub_ℕ a b) ≤ a + b
magnitude_difference a b = go (ltb a b) refl
  where
    go : (t : Bool) → ltb a b ≡ t → nat_abs (cond t (negsuc (b - suc a)) (pos (a - b))) ≤ a + b
    go true e = omega (arith, ltb-true a b e)
    go false e = omega arith

pub magnitude_sum : (a b : ℤ) → nat_abs (a +ℤ b) ≤ nat_abs a + nat_abs b
magnitude_sum (pos a) (pos b) = omega arith
magnitude_sum (pos a) (negsuc b) = magnitude_difference a (suc b)
magnitude_sum (negsuc a) (pos b) = omega (arith, magnitude_difference b (suc a))
magnitude_sum (negsuc a) (negsuc b) = omega arith

pub magnitude_fits : (z : ℤ) → nat_abs z < 2147483648 → SFits w32 z
magnitude_fits (pos n) l = omega arith
magnitude_fits (negsuc n) l = omega arith
