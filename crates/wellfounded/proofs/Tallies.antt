-- Laws of tallies: one number more, lists that are the same so far, and parts.
-- Assumes nothing.
use Prim.Native.Nat.{ℕ, ◌+◌, ◌-◌, ◌≤◌, ◌<◌}
use mathlib.Core.Path.{◌≡◌, ap}
use mathlib.Core.Bool.{cond}
use mathlib.Core.List.{List}
use native.Mathlib.Numerals.{add-one}
use native.Mathlib.Omega.{arith}
use lib.Dec.{eqb}
use lib.ListN.{get_or}
use borrow.Author.Tests.{eqb-true}
use Rattle.wellfounded.specs.Lists.{count}
use Rattle.wellfounded.specs.internal.Tallies.{tally}
use Rattle.wellfounded.proofs.Lists.{count_same, count_use}
use Rattle.wellfounded.proofs.Sums.{count_split}

pub tally_more : (xs : List ℕ) (n x : ℕ) → tally xs (n + 1) x ≡ tally xs n x + cond (eqb (get_or xs n 0) x) 1 0
unfolding tally count
tally_more xs n x = rw add-one (omega arith)

pub tally_same : (xs ys : List ℕ) (n x : ℕ) → ((i : ℕ) → i < n → get_or ys i 0 ≡ get_or xs i 0) → tally ys n x ≡ tally xs n x
unfolding tally
tally_same xs ys n x same = count_same n _ _ (λ i l. ap (λ (y : ℕ). eqb y x) (same i l))

pub tally_below : (xs : List ℕ) (m n x : ℕ) → m ≤ n → tally xs m x ≤ tally xs n x
unfolding tally
tally_below xs m n x l =
    let all : m + (n - m) ≡ n = omega arith in
    rw (← all, count_split m (n - m) (λ i. eqb (get_or xs i 0) x)) (omega arith)

-- What a part of a list counts more stands in it.
pub tally_find :
    (xs : List ℕ) (from to x : ℕ) → from ≤ to → tally xs from x < tally xs to x → (i : ℕ) × (from ≤ i) × (i < to) × (get_or xs i 0 ≡ x)
unfolding tally
tally_find xs from to x l more =
    let all : from + (to - from) ≡ to = omega arith in
    let split : count to (λ i. eqb (get_or xs i 0) x) ≡ count from (λ i. eqb (get_or xs i 0) x) + count (to - from) (λ n. eqb (get_or xs (from + n) 0) x) =
    rw all at (count_split from (to - from) (λ i. eqb (get_or xs i 0) x)) in
    let found = count_use (to - from) (λ n. eqb (get_or xs (from + n) 0) x) (omega arith) in
    (from + found.0, omega arith, omega (arith, found.1), eqb-true _ _ found.2)
