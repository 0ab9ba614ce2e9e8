-- How many digits a number has, counted by tests: one, and one more for each of 9, 99, .. 999,999 that is below it.
-- Assumes nothing.
use Prim.Native.Nat.{ℕ, zero, suc, ◌+◌, ◌≤◌, ◌<◌}
use mathlib.Core.Path.{◌≡◌, refl}
use mathlib.Core.Logic.{◌⊎◌, inl, inr}
use mathlib.Core.Bool.{true, false}
use native.Mathlib.Omega.{arith}
use lib.Dec.{ltb}
use lib.ListN.{length}
use mir.Val.{bool_byte}
use borrow.Author.Tests.{ltb-true, ltb-false, lt-ltb, le-ltb}
use Rattle.wellfounded.proofs.Tests.{decided}
use Rattle.format.specs.Forms.{decimal}
use Rattle.printing.specs.internal.Putting.{max_printed}
use Rattle.printing.proofs.DecimalLaws.{length_some, length_1, length_2, length_3, length_4, length_5, length_6, length_7}
use Rattle.printing.proofs.DecimalLaws.{least_2, least_3, least_4, least_5, least_6, least_7}

-- 1 if a number is above k, else 0.
abbrev pub above : ℕ → ℕ → ℕ
above k n = bool_byte (ltb k n)

-- Two tests that hold together.
same_test : (j k m n : ℕ) → (k < n → j < m) → (n ≤ k → m ≤ j) → above k n ≡ above j m
same_test j k m n up down = step (decided (ltb k n))
  where
    step : (ltb k n ≡ true) ⊎ (ltb k n ≡ false) → above k n ≡ above j m
    step (inl t) = rw (t, lt-ltb j m (up (ltb-true k n t)))
    step (inr t) = rw (t, le-ltb j m (down (ltb-false k n t)))

-- A number up to seven is one, and one more for each of 1 to 6 that is below it.
up_to_seven : (m : ℕ) → 1 ≤ m → m ≤ 7 → 1 + above 1 m + above 2 m + above 3 m + above 4 m + above 5 m + above 6 m ≡ m
up_to_seven zero h k = absurd (omega arith)
up_to_seven (suc zero) h k = refl
up_to_seven (suc (suc zero)) h k = refl
up_to_seven (suc (suc (suc zero))) h k = refl
up_to_seven (suc (suc (suc (suc zero)))) h k = refl
up_to_seven (suc (suc (suc (suc (suc zero))))) h k = refl
up_to_seven (suc (suc (suc (suc (suc (suc zero)))))) h k = refl
up_to_seven (suc (suc (suc (suc (suc (suc (suc zero))))))) h k = refl
up_to_seven (suc (suc (suc (suc (suc (suc (suc (suc m)))))))) h k = absurd (omega arith)

pub digits_counted :
    (n : ℕ) → n ≤ max_printed →
    1 + above 9 n + above 99 n + above 999 n + above 9999 n + above 99999 n + above 999999 n ≡ length (decimal n)
digits_counted n h =
    let m = length (decimal n) in
    rw (
      same_test 1 9 m n (λ l. least_2 n l) (λ l. length_1 n (omega arith)),
      same_test 2 99 m n (λ l. least_3 n l) (λ l. length_2 n (omega arith)),
      same_test 3 999 m n (λ l. least_4 n l) (λ l. length_3 n (omega arith)),
      same_test 4 9999 m n (λ l. least_5 n l) (λ l. length_4 n (omega arith)),
      same_test 5 99999 m n (λ l. least_6 n l) (λ l. length_5 n (omega arith)),
      same_test 6 999999 m n (λ l. least_7 n l) (λ l. length_6 n (omega arith)),
    ) (up_to_seven m (length_some n) (length_7 n (omega arith)))
