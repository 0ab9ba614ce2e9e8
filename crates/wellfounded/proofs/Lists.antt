-- Laws of the general notions of `specs/Lists.antt`.
-- Assumes nothing.
use Prim.Native.Nat.{ℕ, zero, suc, ◌+◌, ◌≤◌, ◌<◌, zero-le, suc-le-suc}
use mathlib.Core.Path.{◌≡◌, refl, sym, ap, ap₂, subst, ◌∙◌}
use mathlib.Core.Logic.{◌⊎◌, inl, inr, ⊎_elim}
use mathlib.Core.Bool.{Bool, true, false, cond, false≢true}
use mathlib.Core.List.Memᴰ
use mathlib.Core.List.{List, [], ◌∷◌, Memᴰ}
use native.Mathlib.Nat.{le_of_suc-le-suc, not-suc-le-zero, eq-or-lt_of_le, add-zero, add-suc}
use native.Mathlib.Numerals.{add-one}
use native.Mathlib.Omega.{arith}
use lib.Dec.{eqb, leb}
use lib.ListN.{length, get_or, replicate}
use borrow.Author.Tests.{eqb-true, eq-eqb, leb-true, leb-false}
use Rattle.wellfounded.specs.Lists.{all, any, tabulate, iterate, all_below, any_below, count, least, same}
use Rattle.wellfounded.proofs.Tests.{decided, clash, both, first, second, either, or_left, or_right}

module _ {A : Type 0} where
  pub all_use : (p : A → Bool) (xs : List A) → all p xs ≡ true → {x : A} → Memᴰ x xs → p x ≡ true
  unfolding all
  all_use p [] h m = absurd (Memᴰ.not-nil m)
  all_use p (y ∷ ys) h {x} m =
      ⊎_elim (λ (e : x ≡ y). ap p e ∙ first (p y) _ h) (λ (n : Memᴰ x ys). all_use p ys (second (p y) _ h) n) (Memᴰ.cases_cons m)

  pub all_make : (p : A → Bool) (xs : List A) → ((x : A) → Memᴰ x xs → p x ≡ true) → all p xs ≡ true
  unfolding all
  all_make p [] h = refl
  all_make p (y ∷ ys) h = both (p y) _ (h y (Memᴰ.head refl)) (all_make p ys (λ x m. h x (Memᴰ.tail m)))

  pub any_use : (p : A → Bool) (xs : List A) → any p xs ≡ true → (x : A) × Memᴰ x xs × (p x ≡ true)
  unfolding any
  any_use p [] h = absurd (false≢true h)
  any_use p (y ∷ ys) h = step (λ t. any_use p ys t) (either (p y) _ h)
    where
      step : (any p ys ≡ true → (x : A) × Memᴰ x ys × (p x ≡ true)) → (p y ≡ true) ⊎ (any p ys ≡ true) → (x : A) × Memᴰ x (y ∷ ys) × (p x ≡ true)
      step later (inl t) = (y, Memᴰ.head refl, t)
      step later (inr t) = ((later t).0, Memᴰ.tail (later t).1, (later t).2)

  pub any_make : (p : A → Bool) (xs : List A) {x : A} → Memᴰ x xs → p x ≡ true → any p xs ≡ true
  unfolding any
  any_make p [] m h = absurd (Memᴰ.not-nil m)
  any_make p (y ∷ ys) {x} m h =
      ⊎_elim (λ (e : x ≡ y). or_left (p y) _ (ap p (sym e) ∙ h)) (λ (n : Memᴰ x ys). or_right (p y) _ (any_make p ys n h)) (Memᴰ.cases_cons m)

  -- Tests that agree on the members.
  pub all_same : (p q : A → Bool) (xs : List A) → ((x : A) → Memᴰ x xs → p x ≡ q x) → all p xs ≡ all q xs
  unfolding all
  all_same p q [] h = refl
  all_same p q (y ∷ ys) h = rw (h y (Memᴰ.head refl), all_same p q ys (λ x m. h x (Memᴰ.tail m)))

  pub any_same : (p q : A → Bool) (xs : List A) → ((x : A) → Memᴰ x xs → p x ≡ q x) → any p xs ≡ any q xs
  unfolding any
  any_same p q [] h = refl
  any_same p q (y ∷ ys) h = rw (h y (Memᴰ.head refl), any_same p q ys (λ x m. h x (Memᴰ.tail m)))

  pub length_tabulate : (n : ℕ) (f : ℕ → A) → length (tabulate n f) ≡ n
  unfolding tabulate
  length_tabulate zero f = refl
  length_tabulate (suc n) f = ap suc (length_tabulate n (λ k. f (suc k)))

  pub tabulate_replicate : (n : ℕ) (a : A) → tabulate n (λ k. a) ≡ replicate n a
  unfolding tabulate
  tabulate_replicate zero a = refl
  tabulate_replicate (suc n) a = ap (λ (l : List A). a ∷ l) (tabulate_replicate n a)

  pub get_d_tabulate : (n : ℕ) (f : ℕ → A) (k : ℕ) (z : A) → k < n → get_or (tabulate n f) k z ≡ f k
  unfolding tabulate
  get_d_tabulate zero f k z h = absurd (not-suc-le-zero h)
  get_d_tabulate (suc n) f zero z h = refl
  get_d_tabulate (suc n) f (suc k) z h = get_d_tabulate n (λ j. f (suc j)) k z (le_of_suc-le-suc h)

  pub get_or_tabulate_beyond : (n : ℕ) (f : ℕ → A) (k : ℕ) (z : A) → n ≤ k → get_or (tabulate n f) k z ≡ z
  unfolding tabulate
  get_or_tabulate_beyond zero f k z h = refl
  get_or_tabulate_beyond (suc n) f zero z h = absurd (not-suc-le-zero h)
  get_or_tabulate_beyond (suc n) f (suc k) z h = get_or_tabulate_beyond n (λ j. f (suc j)) k z (le_of_suc-le-suc h)

  -- The members of a tabulated list are its entries.
  pub member_tabulate : (n : ℕ) (f : ℕ → A) (k : ℕ) → k < n → Memᴰ (f k) (tabulate n f)
  unfolding tabulate
  member_tabulate zero f k l = absurd (not-suc-le-zero l)
  member_tabulate (suc n) f zero l = Memᴰ.head refl
  member_tabulate (suc n) f (suc k) l = Memᴰ.tail (member_tabulate n (λ j. f (suc j)) k (le_of_suc-le-suc l))

  pub tabulate_member : (n : ℕ) (f : ℕ → A) {x : A} → Memᴰ x (tabulate n f) → (k : ℕ) × (k < n) × (x ≡ f k)
  unfolding tabulate
  tabulate_member zero f m = absurd (Memᴰ.not-nil m)
  tabulate_member (suc n) f {x} m = step (λ there. tabulate_member n (λ k. f (suc k)) there) (Memᴰ.cases_cons m)
    where
      step :
          (Memᴰ x (tabulate n (λ k. f (suc k))) → (k : ℕ) × (k < n) × (x ≡ f (suc k))) →
          (x ≡ f zero) ⊎ Memᴰ x (tabulate n (λ k. f (suc k))) → (k : ℕ) × (k < suc n) × (x ≡ f k)
      step later (inl e) = (zero, omega arith, e)
      step later (inr there) = let found = later there in (suc found.0, omega (arith, found.1), found.2)

  -- The default does not matter below the length.
  pub get_d_default : (xs : List A) (k : ℕ) (y z : A) → k < length xs → get_or xs k y ≡ get_or xs k z
  get_d_default [] k y z h = absurd (not-suc-le-zero h)
  get_d_default (x ∷ xs) zero y z h = refl
  get_d_default (x ∷ xs) (suc k) y z h = get_d_default xs k y z (le_of_suc-le-suc h)

  pub iterate_keeps : (P : A → Type 0) (f : A → A) → ((x : A) → P x → P (f x)) → (n : ℕ) (x : A) → P x → P (iterate n f x)
  unfolding iterate
  iterate_keeps P f h zero x px = px
  iterate_keeps P f h (suc n) x px = h (iterate n f x) (iterate_keeps P f h n x px)

  -- From a fixed point on nothing changes.
  pub iterate_fixed : (f : A → A) (x : A) (n : ℕ) → f (iterate n f x) ≡ iterate n f x → (m : ℕ) → iterate (n + m) f x ≡ iterate n f x
  unfolding iterate
  iterate_fixed f x n e zero = rw add-zero
  iterate_fixed f x n e (suc m) = rw add-suc (ap f (iterate_fixed f x n e m) ∙ e)

  -- If each turn leaves x fixed or lowers a measure, as many turns as the measure says end in a fixed point.
  pub iterate_settles :
      (P : A → Type 0) (f : A → A) (measure : A → ℕ) → ((x : A) → P x → P (f x)) →
      ((x : A) → P x → (f x ≡ x) ⊎ (measure (f x) < measure x)) →
      (n : ℕ) (x : A) → P x → measure x ≤ n → f (iterate n f x) ≡ iterate n f x
  unfolding iterate
  iterate_settles P f measure keeps falls n x px h = settled (progress n) (falls (iterate n f x) (iterate_keeps P f keeps n x px))
    where
      Progress : ℕ → Type 0
      Progress k = (f (iterate k f x) ≡ iterate k f x) ⊎ (measure (iterate k f x) + k ≤ measure x)

      step : (k : ℕ) → Progress k → (f (iterate k f x) ≡ iterate k f x) ⊎ (measure (f (iterate k f x)) < measure (iterate k f x)) → Progress (suc k)
      step k (inl e) turn = inl (ap f e)
      step k (inr l) (inl e) = inl (ap f e)
      step k (inr l) (inr t) = inr (omega arith)

      progress : (k : ℕ) → Progress k
      progress zero = inr (omega arith)
      progress (suc k) = step k (progress k) (falls (iterate k f x) (iterate_keeps P f keeps k x px))

      settled : Progress n → (f (iterate n f x) ≡ iterate n f x) ⊎ (measure (f (iterate n f x)) < measure (iterate n f x)) → f (iterate n f x) ≡ iterate n f x
      settled (inl e) turn = e
      settled (inr l) (inl e) = e
      settled (inr l) (inr t) = absurd (omega arith)

-- Functions that agree make the same list.
pub tabulate_same : (n : ℕ) (f g : ℕ → ℕ) → ((a : ℕ) → a < n → f a ≡ g a) → tabulate n f ≡ tabulate n g
unfolding tabulate
tabulate_same zero f g h = refl
tabulate_same (suc n) f g h = rw (h zero (omega arith), tabulate_same n (λ a. f (suc a)) (λ a. g (suc a)) (λ a l. h (suc a) (omega arith)))

-- The members of a list are its entries.
module _ {A : Type 0} (z : A) where
  pub entry_member : (xs : List A) (k : ℕ) → k < length xs → Memᴰ (get_or xs k z) xs
  entry_member [] k l = absurd (not-suc-le-zero l)
  entry_member (x ∷ xs) zero l = Memᴰ.head refl
  entry_member (x ∷ xs) (suc k) l = Memᴰ.tail (entry_member xs k (le_of_suc-le-suc l))

  pub member_entry : (xs : List A) {x : A} → Memᴰ x xs → (k : ℕ) × (k < length xs) × (x ≡ get_or xs k z)
  member_entry [] m = absurd (Memᴰ.not-nil m)
  member_entry (y ∷ ys) {x} m = step (λ there. member_entry ys there) (Memᴰ.cases_cons m)
    where
      step :
          (Memᴰ x ys → (k : ℕ) × (k < length ys) × (x ≡ get_or ys k z)) → (x ≡ y) ⊎ Memᴰ x ys →
          (k : ℕ) × (k < suc (length ys)) × (x ≡ get_or (y ∷ ys) k z)
      step later (inl e) = (zero, omega arith, e)
      step later (inr there) = let found = later there in (suc found.0, omega (arith, found.1), found.2)

pub le_or_lt : (m n : ℕ) → (m ≤ n) ⊎ (n < m)
le_or_lt m n = ⊎_elim (λ (e : leb m n ≡ true). inl (leb-true m n e)) (λ (e : leb m n ≡ false). inr (leb-false m n e)) (decided (leb m n))

pub all_below_use : (n : ℕ) (p : ℕ → Bool) → all_below n p ≡ true → (k : ℕ) → k < n → p k ≡ true
unfolding all_below
all_below_use zero p h k l = absurd (not-suc-le-zero l)
all_below_use (suc n) p h k l =
    ⊎_elim (λ (e : k ≡ n). ap p e ∙ second (all_below n p) _ h) (λ (b : k < n). all_below_use n p (first _ _ h) k b) (eq-or-lt_of_le (le_of_suc-le-suc l))

pub all_below_make : (n : ℕ) (p : ℕ → Bool) → ((k : ℕ) → k < n → p k ≡ true) → all_below n p ≡ true
unfolding all_below
all_below_make zero p h = refl
all_below_make (suc n) p h = both _ (p n) (all_below_make n p (λ k l. h k (omega arith))) (h n (omega arith))

pub any_below_use : (n : ℕ) (p : ℕ → Bool) → any_below n p ≡ true → (k : ℕ) × (k < n) × (p k ≡ true)
unfolding any_below
any_below_use zero p h = absurd (false≢true h)
any_below_use (suc n) p h = step (λ t. any_below_use n p t) (either (any_below n p) _ h)
  where
    step :
        (any_below n p ≡ true → (k : ℕ) × (k < n) × (p k ≡ true)) → (any_below n p ≡ true) ⊎ (p n ≡ true) →
        (k : ℕ) × (k < suc n) × (p k ≡ true)
    step earlier (inl t) = let found = earlier t in (found.0, omega arith, found.2)
    step earlier (inr t) = (n, omega arith, t)

pub any_below_make : (n : ℕ) (p : ℕ → Bool) (k : ℕ) → k < n → p k ≡ true → any_below n p ≡ true
unfolding any_below
any_below_make zero p k l h = absurd (not-suc-le-zero l)
any_below_make (suc n) p k l h =
    ⊎_elim (λ (e : k ≡ n). or_right (any_below n p) _ (ap p (sym e) ∙ h)) (λ (b : k < n). or_left _ _ (any_below_make n p k b h))
    (eq-or-lt_of_le (le_of_suc-le-suc l))

pub count_le : (n : ℕ) (p : ℕ → Bool) → count n p ≤ n
unfolding count
count_le zero p = zero-le
count_le (suc n) p = step (p n) (count_le n p)
  where
    step : (a : Bool) → count n p ≤ n → cond a 1 0 + count n p ≤ suc n
    step true h = omega arith
    step false h = omega arith

pub count_same : (n : ℕ) (p q : ℕ → Bool) → ((k : ℕ) → k < n → p k ≡ q k) → count n p ≡ count n q
unfolding count
count_same zero p q h = refl
count_same (suc n) p q h = rw (h n (omega arith), count_same n p q (λ k l. h k (omega arith)))

-- A test that passes no more often than another passes at the same numbers, or at fewer.
pub count_falls :
    (n : ℕ) (p q : ℕ → Bool) → ((k : ℕ) → k < n → q k ≡ true → p k ≡ true) →
    ((k : ℕ) → k < n → q k ≡ p k) ⊎ (count n q < count n p)
unfolding count
count_falls zero p q h = inl (λ k l. absurd (not-suc-le-zero l))
count_falls (suc n) p q h = step (count_falls n p q (λ k l. h k (omega arith))) (p n) (q n) refl refl (h n (omega arith))
  where
    Same : ℕ → Type 0
    Same m = (k : ℕ) → k < m → q k ≡ p k

    more : Same n → q n ≡ p n → Same (suc n)
    more below here k l = ⊎_elim (λ (e : k ≡ n). ap q e ∙ here ∙ ap p (sym e)) (λ (b : k < n). below k b) (eq-or-lt_of_le (le_of_suc-le-suc l))

    step : Same n ⊎ (count n q < count n p) → (a b : Bool) → p n ≡ a → q n ≡ b → (q n ≡ true → p n ≡ true) → Same (suc n) ⊎ (cond (q n) 1 0 + count n q < cond (p n) 1 0 + count n p)
    step (inl below) true true ep eq imp = inl (more below (eq ∙ sym ep))
    step (inl below) true false ep eq imp = inr (rw (ep, eq, count_same n q p below) (omega arith))
    step (inl below) false true ep eq imp = absurd (clash (imp eq) ep)
    step (inl below) false false ep eq imp = inl (more below (eq ∙ sym ep))
    step (inr l) true true ep eq imp = inr (rw (ep, eq) (omega arith))
    step (inr l) true false ep eq imp = inr (rw (ep, eq) (omega arith))
    step (inr l) false true ep eq imp = absurd (clash (imp eq) ep)
    step (inr l) false false ep eq imp = inr (rw (ep, eq) (omega arith))

-- A count above 0 has counted a number, and one that has counted a number is above 0.
pub count_use : (n : ℕ) (p : ℕ → Bool) → 0 < count n p → (a : ℕ) × (a < n) × (p a ≡ true)
unfolding count
count_use zero p h = absurd (omega arith)
count_use (suc n) p h = step (p n) refl (λ t. count_use n p t) h
  where
    step :
        (b : Bool) → p n ≡ b → (0 < count n p → (a : ℕ) × (a < n) × (p a ≡ true)) → 0 < cond b 1 0 + count n p →
        (a : ℕ) × (a < suc n) × (p a ≡ true)
    step true e earlier t = (n, omega arith, e)
    step false e earlier t = let found = earlier (omega arith) in (found.0, omega (arith, found.1), found.2)

pub count_make : (n : ℕ) (p : ℕ → Bool) (a : ℕ) → a < n → p a ≡ true → 0 < count n p
unfolding count
count_make zero p a l h = absurd (omega arith)
count_make (suc n) p a l h = ⊎_elim (λ (b : n ≤ a). here (omega arith)) (λ (b : a < n). omega (arith, count_make n p a b h)) (le_or_lt n a)
  where
    here : a ≡ n → 0 < cond (p n) 1 0 + count n p
    here e = rw (← e, h) (omega arith)

-- Tests that differ at one number.
pub count_flip :
    (n : ℕ) (p q : ℕ → Bool) (k : ℕ) → k < n → p k ≡ true → q k ≡ false → ((j : ℕ) → (j ≡ k → ⊥) → q j ≡ p j) → 1 + count n q ≡ count n p
unfolding count
count_flip zero p q k l pk qk others = absurd (not-suc-le-zero l)
count_flip (suc n) p q k l pk qk others =
    ⊎_elim
    (λ (here : k ≡ n).
    rw (← here, pk, qk, here, count_same n q p (λ j b. others j (λ e. omega arith))) (omega arith))
    (λ (below : k < n).
    rw (others n (λ e. omega arith), ← count_flip n p q k below pk qk others) (omega arith))
    (eq-or-lt_of_le (le_of_suc-le-suc l))

-- A loop over 0, 1, 2, .. that counts those that pass a test has come to i.
module _ (p : ℕ → Bool) (i n : ℕ) (so : n ≡ count i p) where
  pub counted_pass : p i ≡ true → n + 1 ≡ count (i + 1) p
  unfolding count
  counted_pass here = rw (add-one i, here) (omega arith)

  pub counted_fail : p i ≡ false → n ≡ count (i + 1) p
  unfolding count
  counted_fail here = rw (add-one i, here) (omega arith)

pub least_le : (n : ℕ) (p : ℕ → Bool) → least n p ≤ n
unfolding least
least_le zero p = zero-le
least_le (suc n) p = step (p zero) (least_le n (λ k. p (suc k)))
  where
    step : (a : Bool) → least n (λ k. p (suc k)) ≤ n → cond a zero (suc (least n (λ k. p (suc k)))) ≤ suc n
    step true h = zero-le
    step false h = suc-le-suc h

pub least_before : (n : ℕ) (p : ℕ → Bool) (k : ℕ) → k < least n p → p k ≡ false
unfolding least
least_before zero p k h = absurd (not-suc-le-zero h)
least_before (suc n) p k h = step (p zero) refl k h (λ j l. least_before n (λ i. p (suc i)) j l)
  where
    step : (a : Bool) → p zero ≡ a → (j : ℕ) → j < cond a zero (suc (least n (λ i. p (suc i)))) →
        ((i : ℕ) → i < least n (λ i. p (suc i)) → p (suc i) ≡ false) → p j ≡ false
    step true e j l later = absurd (not-suc-le-zero l)
    step false e zero l later = e
    step false e (suc j) l later = later j (le_of_suc-le-suc l)

-- If n itself passes, what the search answers passes.
pub least_found : (n : ℕ) (p : ℕ → Bool) → p n ≡ true → p (least n p) ≡ true
unfolding least
least_found zero p h = h
least_found (suc n) p h = step (p zero) refl (least_found n (λ k. p (suc k)) h)
  where
    step : (a : Bool) → p zero ≡ a → p (suc (least n (λ k. p (suc k)))) ≡ true → p (cond a zero (suc (least n (λ k. p (suc k))))) ≡ true
    step true e later = e
    step false e later = later

-- A search that has found goes no further,
pub least_more : (k : ℕ) (p : ℕ → Bool) → p k ≡ true → least k p ≡ least (suc k) p
unfolding least
least_more zero p h = rw h
least_more (suc k) p h = ap (λ (n : ℕ). cond (p zero) zero (suc n)) (least_more k (λ j. p (suc j)) h)

-- and one that finds nothing goes to the end.
pub least_last : (n : ℕ) (p : ℕ → Bool) → ((j : ℕ) → j < n → p j ≡ false) → n ≡ least n p
unfolding least
least_last zero p none = refl
least_last (suc n) p none = rw (none zero (omega arith)) (ap suc (least_last n (λ j. p (suc j)) (λ j l. none (suc j) (omega arith))))

pub same_refl : (xs : List ℕ) → same xs xs ≡ true
unfolding same
same_refl [] = refl
same_refl (x ∷ xs) = both (eqb x x) _ (eq-eqb x x refl) (same_refl xs)

pub same_use : (xs ys : List ℕ) → same xs ys ≡ true → xs ≡ ys
unfolding same
same_use [] [] h = refl
same_use [] (y ∷ ys) h = absurd (false≢true h)
same_use (x ∷ xs) [] h = absurd (false≢true h)
same_use (x ∷ xs) (y ∷ ys) h = ap₂ (λ (z : ℕ) (zs : List ℕ). z ∷ zs) (eqb-true x y (first _ _ h)) (same_use xs ys (second (eqb x y) _ h))

pub same_make : (xs ys : List ℕ) → xs ≡ ys → same xs ys ≡ true
same_make xs ys e = subst (λ (zs : List ℕ). same xs zs ≡ true) e (same_refl xs)
