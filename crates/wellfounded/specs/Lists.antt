-- The few general notions on lists and numbers that the other definitions are written in.
use Rattle.std.specs.Prelude.{ℕ, zero, suc, ◌+◌, Bool, true, false, cond, ◌&&◌, ◌||◌, List, [], ◌∷◌, ◌++◌, eqb, ltb}

module _ {A : Type 0} where
  -- Every element passes the test.
  unfoldable pub all : (A → Bool) → List A → Bool
  all p [] = true
  all p (x ∷ xs) = p x && all p xs

  -- Some element passes the test.
  unfoldable pub any : (A → Bool) → List A → Bool
  any p [] = false
  any p (x ∷ xs) = p x || any p xs

  -- The list f 0, f 1, .. f (n - 1).
  unfoldable pub tabulate : ℕ → (ℕ → A) → List A
  tabulate zero f = []
  tabulate (suc n) f = f zero ∷ tabulate n (λ k. f (suc k))

  -- f applied n times.
  unfoldable pub iterate : ℕ → (A → A) → A → A
  iterate zero f x = x
  iterate (suc n) f x = f (iterate n f x)

-- Every number below n passes the test.
unfoldable pub all_below : ℕ → (ℕ → Bool) → Bool
all_below zero p = true
all_below (suc n) p = all_below n p && p n

-- Some number below n passes the test.
unfoldable pub any_below : ℕ → (ℕ → Bool) → Bool
any_below zero p = false
any_below (suc n) p = any_below n p || p n

-- How many numbers below n pass the test.
unfoldable pub count : ℕ → (ℕ → Bool) → ℕ
count zero p = zero
count (suc n) p = cond (p n) 1 0 + count n p

-- f 0 + f 1 + .. + f (n - 1).
unfoldable pub sum_below : ℕ → (ℕ → ℕ) → ℕ
sum_below zero f = 0
sum_below (suc n) f = sum_below n f + f n

-- The highest of f 0, f 1, .. f (n - 1), or 0.
unfoldable pub highest_below : ℕ → (ℕ → ℕ) → ℕ
highest_below zero f = 0
highest_below (suc n) f = cond (ltb (highest_below n f) (f n)) (f n) (highest_below n f)

-- f 0, f 1, .. f (n - 1), one after the other.
unfoldable pub join_below : ℕ → (ℕ → List ℕ) → List ℕ
join_below zero f = []
join_below (suc n) f = join_below n f ++ f n

-- How often a number stands in a list.
unfoldable pub occurs : ℕ → List ℕ → ℕ
occurs x [] = 0
occurs x (y ∷ ys) = cond (eqb x y) 1 0 + occurs x ys

-- The least number below n that passes the test, or n if none does.
unfoldable pub least : ℕ → (ℕ → Bool) → ℕ
least zero p = zero
least (suc n) p = let later = least n (λ k. p (suc k)) in cond (p zero) zero (suc later)

-- Two lists of numbers are equal, as a test.
unfoldable pub same : List ℕ → List ℕ → Bool
same [] [] = true
same [] (y ∷ ys) = false
same (x ∷ xs) [] = false
same (x ∷ xs) (y ∷ ys) = eqb x y && same xs ys
