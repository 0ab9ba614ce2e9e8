-- Laws of sums, of lists joined one after the other, and of how often a number stands in one.
-- Assumes nothing.
use Prim.Native.Nat.{ℕ, zero, suc, ◌+◌, ◌-◌, ◌≤◌, ◌<◌}
use mathlib.Core.Path.{◌≡◌, refl, sym, ap, ◌∙◌}
use mathlib.Core.Logic.{⊎_elim}
use mathlib.Core.Bool.{Bool, true, false, cond}
use mathlib.Core.List.{List, [], ◌∷◌, ◌++◌, append_assoc, append-nil}
use native.Mathlib.Omega.{arith}
use native.Mathlib.Nat.{le_of_suc-le-suc, eq-or-lt_of_le, zero-add, suc-add, add-zero, add-suc}
use native.Mathlib.Numerals.{add-one}
use lib.Dec.{eqb}
use lib.ListN.{length, get_or, length-append, get_or-append}
use lib.Seq.{get_or-append-add}
use borrow.Author.Tests.{eq-eqb, ne_eqb}
use Rattle.std.specs.List.{sum_by}
use Rattle.std.proofs.lemmas.List.Sums.{sum_by-cons}
use Rattle.wellfounded.specs.Lists.{count, sum_below, join_below, occurs}
use Rattle.wellfounded.proofs.Lists.{le_or_lt}

-- ── Sums ──

-- One more summand, and a sum from its front.
pub sum_more : (n : ℕ) (f : ℕ → ℕ) → sum_below (n + 1) f ≡ sum_below n f + f n
unfolding sum_below
sum_more n f = rw add-one

pub sum_front : (n : ℕ) (f : ℕ → ℕ) → sum_below (suc n) f ≡ f 0 + sum_below n (λ k. f (suc k))
unfolding sum_below
sum_front zero f = omega arith
sum_front (suc n) f = let before = sum_front n f in omega arith

-- Sums that agree term by term.
pub sum_same : (n : ℕ) (f g : ℕ → ℕ) → ((k : ℕ) → k < n → f k ≡ g k) → sum_below n f ≡ sum_below n g
unfolding sum_below
sum_same zero f g h = refl
sum_same (suc n) f g h = let before = sum_same n f g (λ k l. h k (omega arith)) in omega (arith, h n (omega arith))

-- A summand ends within the sum of all.
pub sum_within : (f : ℕ → ℕ) (row n : ℕ) → row < n → sum_below row f + f row ≤ sum_below n f
unfolding sum_below
sum_within f row zero l = absurd (omega arith)
sum_within f row (suc n) l =
    ⊎_elim (λ (e : row ≡ n). rw e (omega arith)) (λ (b : row < n). omega (arith, sum_within f row n b)) (eq-or-lt_of_le (le_of_suc-le-suc l))

-- Sums of no larger terms, of sums of terms, of nothing and of ones.
pub sum_le : (n : ℕ) (f g : ℕ → ℕ) → ((k : ℕ) → k < n → f k ≤ g k) → sum_below n f ≤ sum_below n g
unfolding sum_below
sum_le zero f g h = omega arith
sum_le (suc n) f g h = let before = sum_le n f g (λ k l. h k (omega arith)) in omega (arith, h n (omega arith))

pub sum_add : (n : ℕ) (f g : ℕ → ℕ) → sum_below n (λ k. f k + g k) ≡ sum_below n f + sum_below n g
unfolding sum_below
sum_add zero f g = refl
sum_add (suc n) f g = let before = sum_add n f g in omega arith

-- The library's sum over a list, place by place.
pub sum_by_places : (f : ℕ → ℕ) (xs : List ℕ) → sum_by f xs ≡ sum_below (length xs) (λ k. f (get_or xs k 0))
unfolding sum_below
sum_by_places f [] = refl
sum_by_places f (x ∷ xs) = sum_by-cons f x xs ∙ rw (sum_by_places f xs) (sym (sum_front (length xs) (λ k. f (get_or (x ∷ xs) k 0))))

pub sum_none : (n : ℕ) → sum_below n (λ k. 0) ≡ 0
unfolding sum_below
sum_none zero = refl
sum_none (suc n) = let before = sum_none n in omega arith

pub sum_ones : (n : ℕ) → sum_below n (λ k. 1) ≡ n
unfolding sum_below
sum_ones zero = refl
sum_ones (suc n) = let before = sum_ones n in omega arith

-- Sums of sums may be taken in either order.
pub sum_swap : (n m : ℕ) (f : ℕ → ℕ → ℕ) → sum_below n (λ i. sum_below m (f i)) ≡ sum_below m (λ j. sum_below n (λ i. f i j))
unfolding sum_below
sum_swap zero m f = sym (sum_none m)
sum_swap (suc n) m f = ap (λ (x : ℕ). x + sum_below m (f n)) (sum_swap n m f) ∙ sym (sum_add m (λ j. sum_below n (λ i. f i j)) (f n))

-- A sum of which all terms but one are taken away.
pub sum_at : (n x : ℕ) (f : ℕ → ℕ) → x < n → sum_below n (λ k. cond (eqb x k) (f k) 0) ≡ f x
unfolding sum_below
sum_at zero x f l = absurd (omega arith)
sum_at (suc n) x f l =
    ⊎_elim (λ (e : x ≡ n). rw (beyond n (omega arith), eq-eqb x n e, e) (omega arith))
    (λ (b : x < n). rw (sum_at n x f b, ne_eqb x n (λ e. omega arith)) (omega arith)) (eq-or-lt_of_le (le_of_suc-le-suc l))
  where
    beyond : (m : ℕ) → m ≤ x → sum_below m (λ k. cond (eqb x k) (f k) 0) ≡ 0
    beyond m h = sum_same m _ (λ k. 0) (λ k b. rw (ne_eqb x k (λ e. omega arith))) ∙ sum_none m

-- A number below a sum lies within one of the terms.
pub sum_find : (n x : ℕ) (f : ℕ → ℕ) → x < sum_below n f → (i : ℕ) × (i < n) × (sum_below i f ≤ x) × (x < sum_below i f + f i)
unfolding sum_below
sum_find zero x f l = absurd (omega arith)
sum_find (suc n) x f l = ⊎_elim (λ (h : sum_below n f ≤ x). (n, omega arith, h, l)) (λ b. below (sum_find n x f b)) (le_or_lt (sum_below n f) x)
  where
    below :
        (i : ℕ) × (i < n) × (sum_below i f ≤ x) × (x < sum_below i f + f i) → (i : ℕ) × (i < suc n) × (sum_below i f ≤ x) × (x < sum_below i f + f i)
    below found = (found.0, omega (arith, found.1), found.2, found.3)

-- A count is a sum of ones.
pub count_sum : (n : ℕ) (p : ℕ → Bool) → count n p ≡ sum_below n (λ k. cond (p k) 1 0)
unfolding count sum_below
count_sum zero p = refl
count_sum (suc n) p = let before = count_sum n p in omega arith

-- One that passes raises the count, and each number below a count is the count before one that passes.
pub count_below : (i n : ℕ) (p : ℕ → Bool) → i < n → p i ≡ true → count i p < count n p
count_below i n p l passes =
    let within = rw passes at (sum_within (λ k. cond (p k) 1 0) i n l) in
    omega (arith, count_sum i p, count_sum n p)

pub count_find : (n x : ℕ) (p : ℕ → Bool) → x < count n p → (i : ℕ) × (i < n) × (p i ≡ true) × (count i p ≡ x)
count_find n x p l = let found = sum_find n x _ (rw count_sum at l) in one found (p found.0) refl
  where
    one :
        (found : (i : ℕ) × (i < n) × (sum_below i (λ k. cond (p k) 1 0) ≤ x) × (x < sum_below i (λ k. cond (p k) 1 0) + cond (p i) 1 0)) →
        (b : Bool) → p found.0 ≡ b → (i : ℕ) × (i < n) × (p i ≡ true) × (count i p ≡ x)
    one found true e = (found.0, found.1, e, count_sum found.0 p ∙ (let high = rw e at found.3 in omega (arith, found.2)))
    one found false e = absurd (let high = rw e at found.3 in omega (arith, found.2))

pub count_split : (m n : ℕ) (p : ℕ → Bool) → count (m + n) p ≡ count m p + count n (λ k. p (m + k))
unfolding count
count_split m zero p = rw add-zero (omega arith)
count_split m (suc n) p = let before = count_split m n p in rw add-suc (omega arith)

pub count_front : (n : ℕ) (p : ℕ → Bool) → count (suc n) p ≡ cond (p 0) 1 0 + count n (λ k. p (suc k))
count_front n p = count_sum (suc n) p ∙ sum_front n _ ∙ ap (λ (m : ℕ). cond (p 0) 1 0 + m) (sym (count_sum n (λ k. p (suc k))))

-- ── Joined lists ──

-- One part more, behind those before it.
pub join_more : (n : ℕ) (f : ℕ → List ℕ) → join_below (n + 1) f ≡ join_below n f ++ f n
unfolding join_below
join_more n f = rw add-one

-- Joined parts from their front.
pub join_front : (n : ℕ) (f : ℕ → List ℕ) → join_below (suc n) f ≡ f 0 ++ join_below n (λ k. f (suc k))
unfolding join_below
join_front zero f = sym (append-nil (f 0))
join_front (suc n) f = ap (λ (front : List ℕ). front ++ f (suc n)) (join_front n f) ∙ append_assoc (f 0) (join_below n (λ k. f (suc k))) (f (suc n))

-- More parts are at least as long.
join_longer : (m k : ℕ) (f : ℕ → List ℕ) → length (join_below m f) ≤ length (join_below (k + m) f)
unfolding join_below
join_longer m zero f = rw zero-add (omega arith)
join_longer m (suc k) f = let before = join_longer m k f in rw (suc-add k m, length-append) (omega arith)

pub join_below_lem : (m n : ℕ) (f : ℕ → List ℕ) → m ≤ n → length (join_below m f) ≤ length (join_below n f)
join_below_lem m n f h =
    let e : n - m + m ≡ n = omega arith in
    rw e at (join_longer m (n - m) f)

-- How long joined parts are,
pub length_join : (n : ℕ) (f : ℕ → List ℕ) → length (join_below n f) ≡ sum_below n (λ k. length (f k))
unfolding join_below sum_below
length_join zero f = refl
length_join (suc n) f = rw (length-append, length_join n f)

-- and what stands in them: a part's entries, behind those of the parts before it.
pub join_at :
    (m n j : ℕ) (f : ℕ → List ℕ) → m < n → j < length (f m) → get_or (join_below n f) (length (join_below m f) + j) 0 ≡ get_or (f m) j 0
unfolding join_below
join_at m zero j f l h = absurd (omega arith)
join_at m (suc n) j f l h =
    ⊎_elim (λ (e : m ≡ n). rw e (get_or-append-add (join_below n f) (f n) j 0))
    (λ (b : m < n). get_or-append (join_below n f) (f n) 0 _ (within b) ∙ join_at m n j f b h) (eq-or-lt_of_le (le_of_suc-le-suc l))
  where
    within : m < n → length (join_below m f) + j < length (join_below n f)
    within b =
        let next = ap length (join_more m f) ∙ length-append (join_below m f) (f m) in
        omega (arith, join_below_lem (m + 1) n f (omega arith))

-- ── How often a number stands in a list ──

-- By the list's first entry: in general, where it is the number, and where it is another.
pub occurs_first : (x y : ℕ) (ys : List ℕ) → occurs x (y ∷ ys) ≡ cond (eqb x y) 1 0 + occurs x ys
unfolding occurs
occurs_first x y ys = refl

pub occurs_head : (x : ℕ) (xs : List ℕ) → occurs x (x ∷ xs) ≡ 1 + occurs x xs
occurs_head x xs = rw (occurs_first x x xs, eq-eqb x x refl)

pub occurs_behind : (x y : ℕ) (ys : List ℕ) → (x ≡ y → ⊥) → occurs x (y ∷ ys) ≡ occurs x ys
occurs_behind x y ys n = rw (occurs_first x y ys, ne_eqb x y n) (omega arith)

-- In two lists, and in joined ones.
pub occurs_append : (x : ℕ) (ys zs : List ℕ) → occurs x (ys ++ zs) ≡ occurs x ys + occurs x zs
unfolding occurs
occurs_append x [] zs = omega arith
occurs_append x (y ∷ ys) zs = let rest = occurs_append x ys zs in omega arith

pub occurs_join : (x n : ℕ) (f : ℕ → List ℕ) → occurs x (join_below n f) ≡ sum_below n (λ k. occurs x (f k))
unfolding join_below sum_below occurs
occurs_join x zero f = refl
occurs_join x (suc n) f = occurs_append x (join_below n f) (f n) ∙ ap (λ (m : ℕ). m + occurs x (f n)) (occurs_join x n f)
