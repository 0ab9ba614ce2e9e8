-- Numbers in base ten: how many digits they have, and that they may be put from the last digit on.
-- Assumes nothing.
use Prim.Native.Nat.{ℕ, suc, ◌+◌, ◌-◌, ◌*◌, ◌/◌, ◌%◌, ◌≤◌, ◌<◌}
use mathlib.Core.Path.{◌≡◌, refl, sym, ap, ◌∙◌}
use mathlib.Core.Logic.{◌⊎◌, inl, inr}
use mathlib.Core.Bool.{true, false}
use mathlib.Core.List.{List, [], ◌∷◌, ◌++◌}
use native.Mathlib.Omega.{arith}
use lib.Dec.{ltb}
use lib.ListN.{length, set, length-append, length-set}
use lib.Seq.{sets}
use borrow.Author.Tests.{ltb-true, ltb-false}
use Rattle.wellfounded.proofs.Tests.{decided}
use Rattle.format.specs.Forms.{decimal}
use Rattle.format.proofs.Decimals.{decimal_digit, decimal_snoc}
use Rattle.printing.specs.internal.Putting.{Puts}
use Rattle.printing.proofs.PutLaws.{sets_append, sets_set}

-- The last digit, and what stands before it.
decimal_last : (n : ℕ) → 10 ≤ n → decimal n ≡ decimal (n / 10) ++ ((48 + n % 10) ∷ [])
decimal_last n h =
    let whole : n / 10 * 10 + n % 10 ≡ n = omega arith in
    sym (ap decimal whole) ∙ decimal_snoc (n / 10) (n % 10) (omega arith) (omega arith)

pub length_digit : (n : ℕ) → n < 10 → length (decimal n) ≡ 1
length_digit n h = ap length (decimal_digit n h)

pub length_last : (n : ℕ) → 10 ≤ n → length (decimal n) ≡ length (decimal (n / 10)) + 1
length_last n h = ap length (decimal_last n h) ∙ length-append (decimal (n / 10)) _

pub length_some : (n : ℕ) → 1 ≤ length (decimal n)
length_some n = step (decided (ltb n 10))
  where
    step : (ltb n 10 ≡ true) ⊎ (ltb n 10 ≡ false) → 1 ≤ length (decimal n)
    step (inl t) = let e = length_digit n (ltb-true n 10 t) in omega arith
    step (inr t) = let e = length_last n (ltb-false n 10 t) in omega arith

-- Ten times as many numbers have one digit more.
decimal_longer : (k top n : ℕ) → ((m : ℕ) → m < top → length (decimal m) ≤ k) → n < top * 10 → length (decimal n) ≤ suc k
decimal_longer k top n short h = step (decided (ltb n 10))
  where
    step : (ltb n 10 ≡ true) ⊎ (ltb n 10 ≡ false) → length (decimal n) ≤ suc k
    step (inl t) = let e = length_digit n (ltb-true n 10 t) in omega arith
    step (inr t) =
        let l = ltb-false n 10 t in
        let e = length_last n l in
        let s = short (n / 10) (omega arith) in
        omega arith

pub length_1 : (n : ℕ) → n < 10 → length (decimal n) ≤ 1
length_1 n h = let e = length_digit n h in omega arith

pub length_2 : (n : ℕ) → n < 100 → length (decimal n) ≤ 2
length_2 n h = decimal_longer 1 10 n length_1 h

pub length_3 : (n : ℕ) → n < 1000 → length (decimal n) ≤ 3
length_3 n h = decimal_longer 2 100 n length_2 h

pub length_4 : (n : ℕ) → n < 10000 → length (decimal n) ≤ 4
length_4 n h = decimal_longer 3 1000 n length_3 h

pub length_5 : (n : ℕ) → n < 100000 → length (decimal n) ≤ 5
length_5 n h = decimal_longer 4 10000 n length_4 h

pub length_6 : (n : ℕ) → n < 1000000 → length (decimal n) ≤ 6
length_6 n h = decimal_longer 5 100000 n length_5 h

pub length_7 : (n : ℕ) → n < 10000000 → length (decimal n) ≤ 7
length_7 n h = decimal_longer 6 1000000 n length_6 h

-- A number ten times as large has one digit more.
decimal_deeper :
    (k bottom n : ℕ) → ((m : ℕ) → bottom ≤ m → k ≤ length (decimal m)) → 1 ≤ bottom → bottom * 10 ≤ n → suc k ≤ length (decimal n)
decimal_deeper k bottom n long some h =
    let e = length_last n (omega arith) in
    let l = long (n / 10) (omega arith) in
    omega arith

pub least_2 : (n : ℕ) → 10 ≤ n → 2 ≤ length (decimal n)
least_2 n h = decimal_deeper 1 1 n (λ m l. length_some m) (omega arith) h

pub least_3 : (n : ℕ) → 100 ≤ n → 3 ≤ length (decimal n)
least_3 n h = decimal_deeper 2 10 n least_2 (omega arith) h

pub least_4 : (n : ℕ) → 1000 ≤ n → 4 ≤ length (decimal n)
least_4 n h = decimal_deeper 3 100 n least_3 (omega arith) h

pub least_5 : (n : ℕ) → 10000 ≤ n → 5 ≤ length (decimal n)
least_5 n h = decimal_deeper 4 1000 n least_4 (omega arith) h

pub least_6 : (n : ℕ) → 100000 ≤ n → 6 ≤ length (decimal n)
least_6 n h = decimal_deeper 5 10000 n least_5 (omega arith) h

pub least_7 : (n : ℕ) → 1000000 ≤ n → 7 ≤ length (decimal n)
least_7 n h = decimal_deeper 6 100000 n least_6 (omega arith) h

-- Two digits are those of ten or more, and one is that of a number below it.
pub digits_many : (n : ℕ) → 2 ≤ length (decimal n) → 10 ≤ n
digits_many n h = grind (arith, length_1 n)

pub digits_one : (n : ℕ) → length (decimal n) ≤ 1 → n < 10
digits_one n h = grind (arith, least_2 n)

-- While digits are put from the last on: those of the rest are still to come, the last of them at `place`.
pub record Writing (before : List ℕ) (at number : ℕ) (place rest : ℕ) (present : List ℕ) : Type 0 where
  pub here : place + 1 ≡ at + length (decimal rest)
  pub small : rest ≤ number
  pub inside : place < length before
  pub long : length present ≡ length before
  pub meets : sets present at (decimal rest) ≡ sets before at (decimal number)

pub writing_start :
    (l : List ℕ) (at number place : ℕ) → at + length (decimal number) ≤ length l → place + 1 ≡ at + length (decimal number) →
    Writing l at number place number l
writing_start l at number place room e = record { here = e; small = omega arith; inside = omega arith; long = refl; meets = refl }

pub writing_more : {l m : List ℕ} {at number place rest : ℕ} → 10 ≤ rest → Writing l at number place rest m → 1 ≤ place
writing_more {l} {m} {at} {number} {place} {rest} h w = omega (arith, length_last rest h, length_some (rest / 10))

pub writing_turn :
    {l m r : List ℕ} {at number place rest : ℕ} → 10 ≤ rest → r ≡ set m place (48 + rest % 10) →
    Writing l at number place rest m → Writing l at number (place - 1) (rest / 10) r
writing_turn {l} {m} {r} {at} {number} {place} {rest} h e w =
    let last = length_last rest h in
    let some = length_some (rest / 10) in
    let p : place ≡ at + length (decimal (rest / 10)) = omega arith in
    record {
      here = omega arith;
      small = omega arith;
      inside = omega arith;
      long = ap length e ∙ simp length-set w.long;
      meets =
          rw e (sym (sets_set m at (decimal (rest / 10)) place (48 + rest % 10) (omega arith)) ∙
          ap (λ (k : ℕ). set (sets m at (decimal (rest / 10))) k (48 + rest % 10)) p ∙
          sym (sets_append m at (decimal (rest / 10)) ((48 + rest % 10) ∷ [])) ∙ ap (λ (s : List ℕ). sets m at s) (sym (decimal_last rest h)) ∙ w.meets);
    }

pub writing_end :
    {l m r : List ℕ} {at number place rest : ℕ} → rest < 10 → r ≡ set m place (48 + rest) → Writing l at number place rest m →
    r ≡ sets l at (decimal number)
writing_end {l} {m} {r} {at} {number} {place} {rest} h e w =
    let one = length_digit rest h in
    let p : place ≡ at = omega arith in
    e ∙ ap (λ (k : ℕ). set m k (48 + rest)) p ∙ ap (λ (s : List ℕ). sets m at s) (sym (decimal_digit rest h)) ∙ w.meets

-- A single digit is put by a store.
pub puts_one : {l m : List ℕ} {at n : ℕ} → n < 10 → m ≡ set l at (48 + n) → Puts l at (decimal n) (at + 1) m
puts_one {l} {m} {at} {n} h e = rw (decimal_digit n h) (record { answered = omega arith; stored = e })
