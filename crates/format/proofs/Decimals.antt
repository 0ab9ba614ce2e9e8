-- Numbers in base ten are read as they are written.
-- Assumes nothing.
use Prim.Native.Nat.{ℕ, zero, suc, ◌+◌, ◌-◌, ◌*◌, ◌/◌, ◌%◌, ◌≤◌, ◌<◌}
use mathlib.Core.Path.{◌≡◌, refl, sym, ap, ◌∙◌}
use mathlib.Core.Logic.{◌⊎◌, inl, inr}
use mathlib.Core.Bool.{Bool, true, false, cond, not, ◌&&◌}
use mathlib.Core.List.{List, [], ◌∷◌, ◌++◌, append_assoc}
use native.Mathlib.Omega.{arith}
use native.Mathlib.Nat.{not-suc-le-zero}
use lib.Dec.{eqb, leb, ltb}
use borrow.Author.Tests.{eqb-false, ne_eqb, leb-true, le-leb, lt-ltb, le-ltb, ltb-true, ltb-false, not-true}
use Rattle.wellfounded.proofs.Tests.{decided, both, first, second}
use Rattle.format.specs.Forms.{decimal_with, decimal}
use Rattle.format.specs.Parse.{Holds, got, refused, is_digit, more_digits, starts_with_digit, read_number}
use Rattle.format.proofs.Readings.{holds_cond}

-- One digit, and a digit after others, of numbers with fuel enough.
pub decimal_with_small : (fuel n : ℕ) (rest : List ℕ) → n < 10 → decimal_with (suc fuel) n rest ≡ (48 + n) ∷ rest
unfolding decimal_with
decimal_with_small fuel n rest l =
    let e : n % 10 ≡ n = omega arith in
    rw (lt-ltb n 10 l, e)

decimal_with_large : (fuel n : ℕ) (rest : List ℕ) → 10 ≤ n → decimal_with (suc fuel) n rest ≡ decimal_with fuel (n / 10) ((48 + n % 10) ∷ rest)
unfolding decimal_with
decimal_with_large fuel n rest l = rw (le-ltb n 10 l)

decimal_with_append : (fuel n : ℕ) (rest : List ℕ) → decimal_with fuel n rest ≡ decimal_with fuel n [] ++ rest
decimal_with_append zero n rest = unfold decimal_with in refl
decimal_with_append (suc fuel) n rest = step (λ r. decimal_with_append fuel (n / 10) r) (decided (ltb n 10))
  where
    step :
        ((r : List ℕ) → decimal_with fuel (n / 10) r ≡ decimal_with fuel (n / 10) [] ++ r) → (ltb n 10 ≡ true) ⊎ (ltb n 10 ≡ false) →
        decimal_with (suc fuel) n rest ≡ decimal_with (suc fuel) n [] ++ rest
    step later (inl t) = let l = ltb-true n 10 t in rw (decimal_with_small fuel n rest l, decimal_with_small fuel n [] l)
    step later (inr t) =
        let l = ltb-false n 10 t in
        rw (decimal_with_large fuel n rest l, decimal_with_large fuel n [] l)
        (later ((48 + n % 10) ∷ rest) ∙ sym (ap (λ (s : List ℕ). s ++ rest) (later ((48 + n % 10) ∷ [])) ∙ simp append_assoc))

decimal_with_fuel : (f g n : ℕ) (rest : List ℕ) → n < f → n < g → decimal_with f n rest ≡ decimal_with g n rest
decimal_with_fuel zero g n rest l m = absurd (not-suc-le-zero l)
decimal_with_fuel (suc f) zero n rest l m = absurd (not-suc-le-zero m)
decimal_with_fuel (suc f) (suc g) n rest l m = step (λ r a b. decimal_with_fuel f g (n / 10) r a b) (decided (ltb n 10))
  where
    step :
        ((r : List ℕ) → n / 10 < f → n / 10 < g → decimal_with f (n / 10) r ≡ decimal_with g (n / 10) r) →
        (ltb n 10 ≡ true) ⊎ (ltb n 10 ≡ false) → decimal_with (suc f) n rest ≡ decimal_with (suc g) n rest
    step later (inl t) = let s = ltb-true n 10 t in rw (decimal_with_small f n rest s, decimal_with_small g n rest s)
    step later (inr t) =
        let s = ltb-false n 10 t in
        rw (decimal_with_large f n rest s, decimal_with_large g n rest s) (later _ (omega arith) (omega arith))

pub decimal_digit : (n : ℕ) → n < 10 → decimal n ≡ (48 + n) ∷ []
unfolding decimal
decimal_digit n l = decimal_with_small n n [] l

-- A further digit stands behind those of the number before it.
pub decimal_snoc : (v d : ℕ) → 0 < v → d < 10 → decimal (v * 10 + d) ≡ decimal v ++ ((48 + d) ∷ [])
unfolding decimal
decimal_snoc v d p l =
    let q : (v * 10 + d) / 10 ≡ v = omega arith in
    let r : (v * 10 + d) % 10 ≡ d = omega arith in
    decimal_with_large (v * 10 + d) (v * 10 + d) [] (omega arith) ∙
    rw (q, r) (decimal_with_append (v * 10 + d) v ((48 + d) ∷ []) ∙ ap (λ (s : List ℕ). s ++ ((48 + d) ∷ [])) (decimal_with_fuel (v * 10 + d) (suc v) v [] (omega arith) (omega arith)))

-- Digits are bytes 48 to 57.
pub digit_is : (b : ℕ) → is_digit b ≡ true → (48 ≤ b) × (b < 58)
unfolding is_digit
digit_is b e = (leb-true 48 b (first (leb 48 b) _ e), omega (arith, leb-true b 57 (second (leb 48 b) _ e)))

pub is_digit_lem : (d : ℕ) → d < 10 → is_digit (48 + d) ≡ true
unfolding is_digit
is_digit_lem d l = both (leb 48 (48 + d)) (leb (48 + d) 57) (le-leb 48 (48 + d) (omega arith)) (le-leb (48 + d) 57 (omega arith))

-- The reader's steps.
more_digit : (n d : ℕ) (bs : List ℕ) → d < 10 → more_digits n ((48 + d) ∷ bs) ≡ more_digits (n * 10 + d) bs
unfolding more_digits
more_digit n d bs l =
    let e : 48 + d - 48 ≡ d = omega arith in
    rw (is_digit_lem d l, e)

-- Digits end where no digit follows.
pub more_end : (n : ℕ) (rest : List ℕ) → starts_with_digit rest ≡ false → more_digits n rest ≡ got n rest
unfolding more_digits starts_with_digit
more_end n [] e = refl
more_end n (b ∷ bs) e = rw e

number_digit : (d : ℕ) (bs : List ℕ) → 0 < d → d < 10 → read_number ((48 + d) ∷ bs) ≡ more_digits d bs
unfolding read_number
number_digit d bs p l =
    let e : 48 + d - 48 ≡ d = omega arith in
    let n : eqb (48 + d) 48 ≡ false = ne_eqb (48 + d) 48 (omega arith) in
    rw (is_digit_lem d l, n, e)

-- After the digits of a number that is not zero, the reader has that number.
number_prefix : (fuel n : ℕ) (bs : List ℕ) → n < fuel → 0 < n → read_number (decimal n ++ bs) ≡ more_digits n bs
number_prefix zero n bs l p = absurd (not-suc-le-zero l)
number_prefix (suc fuel) n bs l p = step (λ cs a b. number_prefix fuel (n / 10) cs a b) (decided (ltb n 10))
  where
    step :
        ((cs : List ℕ) → n / 10 < fuel → 0 < n / 10 → read_number (decimal (n / 10) ++ cs) ≡ more_digits (n / 10) cs) →
        (ltb n 10 ≡ true) ⊎ (ltb n 10 ≡ false) → read_number (decimal n ++ bs) ≡ more_digits n bs
    step later (inl t) = let s = ltb-true n 10 t in rw (decimal_digit n s) (number_digit n bs p s)
    step later (inr t) =
        let s = ltb-false n 10 t in
        let whole : n / 10 * 10 + n % 10 ≡ n = omega arith in
        let last : n % 10 < 10 = omega arith in
        let written : decimal n ≡ decimal (n / 10) ++ ((48 + n % 10) ∷ []) = sym (ap decimal whole) ∙ decimal_snoc (n / 10) (n % 10) (omega arith) last in
        ap (λ (s : List ℕ). read_number (s ++ bs)) written ∙ ap read_number (append_assoc (decimal (n / 10)) ((48 + n % 10) ∷ []) bs) ∙
        later ((48 + n % 10) ∷ bs) (omega arith) (omega arith) ∙ more_digit (n / 10) (n % 10) bs last ∙ ap (λ (m : ℕ). more_digits m bs) whole

pub number_reads : (n : ℕ) (rest : List ℕ) → starts_with_digit rest ≡ false → read_number (decimal n ++ rest) ≡ got n rest
unfolding read_number is_digit
number_reads zero rest e = rw (decimal_digit zero (omega arith), e) (more_end zero rest e)
number_reads (suc n) rest e = number_prefix (suc (suc n)) (suc n) rest (omega arith) (omega arith) ∙ more_end (suc n) rest e

-- What the reader made of the bytes, written again, is those bytes.
more_written :
    (acc : ℕ) (bs : List ℕ) → 0 < acc → Holds (λ n rest. decimal acc ++ bs ≡ decimal n ++ rest) (more_digits acc bs)
unfolding more_digits
more_written acc [] p = refl
more_written acc (b ∷ bs) p = step (λ q. more_written (acc * 10 + (b - 48)) bs q) (is_digit b) refl
  where
    step :
        (0 < acc * 10 + (b - 48) → Holds (λ n rest. decimal (acc * 10 + (b - 48)) ++ bs ≡ decimal n ++ rest) (more_digits (acc * 10 + (b - 48)) bs)) →
        (t : Bool) → is_digit b ≡ t →
        Holds (λ n rest. decimal acc ++ (b ∷ bs) ≡ decimal n ++ rest) (cond t (more_digits (acc * 10 + (b - 48)) bs) (got acc (b ∷ bs)))
    step later true t =
        let d = digit_is b t in
        let back : 48 + (b - 48) ≡ b = omega arith in
        let same : decimal (acc * 10 + (b - 48)) ++ bs ≡ decimal acc ++ (b ∷ bs) =
        rw (decimal_snoc acc (b - 48) p (omega arith), back) (append_assoc (decimal acc) (b ∷ []) bs) in
        rw same at (later (omega arith))
    step later false t = refl

digit_again : (b : ℕ) → is_digit b ≡ true → decimal (b - 48) ≡ b ∷ []
digit_again b t =
    let d = digit_is b t in
    let back : 48 + (b - 48) ≡ b = omega arith in
    decimal_digit (b - 48) (omega arith) ∙ rw back

pub number_written : (bs : List ℕ) → Holds (λ n rest. bs ≡ decimal n ++ rest) (read_number bs)
unfolding read_number
number_written [] = tt
number_written (b ∷ bs) =
    holds_cond Goal (is_digit b && not (eqb b 48 && starts_with_digit bs)) (more_digits (b - 48) bs) refused
    (λ t. step (first (is_digit b) _ t) (not-true (eqb b 48 && starts_with_digit bs) (second (is_digit b) _ t)) (eqb b 48) refl) (λ f. tt)
  where
    Goal : ℕ → List ℕ → Type 0
    Goal n rest = b ∷ bs ≡ decimal n ++ rest

    step : is_digit b ≡ true → (eqb b 48 && starts_with_digit bs) ≡ false → (z : Bool) → eqb b 48 ≡ z → Holds Goal (more_digits (b - 48) bs)
    step t n true e = rw (more_end (b - 48) bs (rw e at n), digit_again b t) refl
    step t n false e =
        let d = digit_is b t in
        let other = eqb-false b 48 e in
        rw (digit_again b t) at (more_written (b - 48) bs (omega arith))
