-- Laws of numbers whose values stop growing: within the limits nothing of them is lost, and they are tested as the numbers themselves are.
-- Assumes nothing.
use Prim.Native.Nat.{ℕ, suc, ◌+◌, ◌*◌, ◌≤◌, ◌<◌}
use mathlib.Core.Path.{◌≡◌, refl}
use native.Mathlib.Omega.{arith}
use lib.Dec.{eqb, leb, ltb}
use lib.IntN.{ℤ, pos, negsuc, nat_abs}
use borrow.Author.Tests.{eqb-true, eq-eqb, leb-true, le-leb, ltb-true, lt-ltb}
use mir.Syntax.{w32}
use mir.Val.{SFits}
use Rattle.wellfounded.proofs.Tests.{same_test}
use Rattle.tables.proofs.Signs.{magnitude_negated, magnitude_fits}
use Rattle.numerals.specs.internal.Offsets.{beyond_limits, capped, clamped}

-- The value of a number.
pub capped_small : (n : ℕ) → n ≤ beyond_limits → capped n ≡ n
unfolding capped
capped_small n l = omega arith

pub capped_large : (n : ℕ) → beyond_limits ≤ n → capped n ≡ beyond_limits
unfolding capped
capped_large n l = omega arith

pub capped_limit : (n : ℕ) → capped n ≤ beyond_limits
unfolding capped
capped_limit n = omega arith

-- One more digit loses nothing that was not lost before.
pub capped_digit : (m n d : ℕ) → capped m ≡ capped n → capped (m * 10 + d) ≡ capped (n * 10 + d)
unfolding capped
capped_digit m n d e = omega arith

-- It is 0, or within a bound, exactly if the number is.
pub capped_zero : (n : ℕ) → eqb (capped n) 0 ≡ eqb n 0
unfolding capped
capped_zero n =
    same_test _ _ (λ t. eq-eqb n 0 (omega (arith, eqb-true (capped n) 0 t))) (λ t. eq-eqb (capped n) 0 (omega (arith, eqb-true n 0 t)))

module _ (n bound : ℕ) where
  pub capped_below : bound ≤ beyond_limits → ltb (capped n) bound ≡ ltb n bound
  unfolding capped
  capped_below l =
      same_test _ _ (λ t. lt-ltb n bound (omega (arith, ltb-true (capped n) bound t))) (λ t. lt-ltb (capped n) bound (omega (arith, ltb-true n bound t)))

  pub capped_within : bound < beyond_limits → leb (capped n) bound ≡ leb n bound
  unfolding capped
  capped_within l =
      same_test _ _ (λ t. le-leb n bound (omega (arith, leb-true (capped n) bound t))) (λ t. le-leb (capped n) bound (omega (arith, leb-true n bound t)))

-- The value of a signed number.
pub clamped_magnitude : (z : ℤ) → nat_abs (clamped z) ≡ capped (nat_abs z)
unfolding clamped
clamped_magnitude (pos n) = refl
clamped_magnitude (negsuc n) = magnitude_negated (pos (capped (suc n)))

pub clamped_small : (z : ℤ) → nat_abs z ≤ beyond_limits → clamped z ≡ z
unfolding clamped
clamped_small (pos n) l = rw (capped_small n l)
clamped_small (negsuc n) l = rw (capped_small (suc n) l)

pub clamped_within : (z : ℤ) (bound : ℕ) → bound < beyond_limits → leb (nat_abs (clamped z)) bound ≡ leb (nat_abs z) bound
clamped_within z bound l = rw (clamped_magnitude z) (capped_within (nat_abs z) bound l)

-- It fits the machine's.
pub clamped_fits : (z : ℤ) → SFits w32 (clamped z)
clamped_fits z = magnitude_fits (clamped z) (omega (arith, clamped_magnitude z, capped_limit (nat_abs z)))
