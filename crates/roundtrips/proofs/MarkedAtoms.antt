-- The marked atoms: they rise, they lie below N, and as ones they are the marks again.
-- Assumes nothing.
use Prim.Native.Nat.{ℕ, zero, suc, ◌≤◌, ◌<◌}
use mathlib.Core.Path.{◌≡◌, refl, sym, ap, ap₂, ◌∙◌}
use mathlib.Core.Logic.{◌⊎◌, inl, inr}
use mathlib.Core.Bool.{Bool, true, false, cond, ◌&&◌, ◌||◌}
use mathlib.Core.List.{List, [], ◌∷◌, ◌++◌}
use native.Mathlib.Omega.{arith}
use lib.Dec.{eqb, leb, ltb}
use lib.ListN.{length, get_or}
use lib.Seq.{ext_get_or}
use borrow.Author.Tests.{eqb-true, eqb-false, eq-eqb, ne_eqb, leb-true, le-leb, lt-ltb, le-ltb, ltb-true, ltb-false}
use Rattle.wellfounded.specs.Lists.{all, any, tabulate, join_below}
use Rattle.wellfounded.proofs.Tests.{decided, both, first, second, clash}
use Rattle.wellfounded.proofs.Lists.{length_tabulate, get_d_tabulate}
use Rattle.tables.specs.Rows.{is_declared}
use Rattle.judging.specs.Judging.{rises_from}
use Rattle.forms.specs.Entries.{ones_at}
use Rattle.writing.specs.BookForms.{marked_atom, marked_atoms}
use Rattle.roundtrips.proofs.ListTests.{all_both}

-- ── Rising lists ──

abbrev Below : ℕ → List ℕ → Type 0
Below m xs = all (λ (x : ℕ). ltb x m) xs ≡ true

rises_lower : (xs : List ℕ) (floor m : ℕ) → floor ≤ m → rises_from m xs ≡ true → rises_from floor xs ≡ true
unfolding rises_from
rises_lower [] floor m h r = refl
rises_lower (x ∷ xs) floor m h r =
    let l = leb-true m x (first (leb m x) _ r) in
    both (leb floor x) _ (le-leb floor x (omega arith)) (second (leb m x) _ r)

-- A rising list goes on with one that rises from above it.
rises_then :
    (xs ys : List ℕ) (floor m : ℕ) → rises_from floor xs ≡ true → Below m xs → floor ≤ m → rises_from m ys ≡ true →
    rises_from floor (xs ++ ys) ≡ true
unfolding rises_from all
rises_then [] ys floor m r b h q = rises_lower ys floor m h q
rises_then (x ∷ xs) ys floor m r b h q =
    let low = ltb-true x m (first (ltb x m) _ b) in
    both (leb floor x) _ (first (leb floor x) _ r) (rises_then xs ys (suc x) m (second (leb floor x) _ r) (second (ltb x m) _ b) low q)

below_more : (xs : List ℕ) (m : ℕ) → Below m xs → Below (suc m) xs
unfolding all
below_more [] m h = refl
below_more (x ∷ xs) m h =
    let l = ltb-true x m (first (ltb x m) _ h) in
    both (ltb x (suc m)) _ (lt-ltb x (suc m) (omega arith)) (below_more xs m (second (ltb x m) _ h))

-- What a rising list holds is no lower than its floor.
not_lower : (xs : List ℕ) (floor a : ℕ) → rises_from floor xs ≡ true → a < floor → any (eqb a) xs ≡ false
unfolding rises_from any
not_lower [] floor a r h = refl
not_lower (x ∷ xs) floor a r h =
    let l = leb-true floor x (first (leb floor x) _ r) in
    rw (ne_eqb a x (λ e. omega arith)) (not_lower xs (suc x) a (second (leb floor x) _ r) (omega arith))

-- Two rising lists that hold the same are equal.
same_cons : (x y : ℕ) (xs ys : List ℕ) → x ≡ y → xs ≡ ys → x ∷ xs ≡ y ∷ ys
same_cons x y xs ys e f = ap₂ (λ (z : ℕ) (zs : List ℕ). z ∷ zs) e f

holds_head : (x : ℕ) (xs : List ℕ) → any (eqb x) (x ∷ xs) ≡ true
unfolding any
holds_head x xs = rw (eq-eqb x x refl)

head_least : (xs : List ℕ) (y x : ℕ) (floor : ℕ) → rises_from floor (y ∷ xs) ≡ true → any (eqb x) (y ∷ xs) ≡ true → y ≤ x
unfolding rises_from
head_least xs y x floor r h = step (decided (ltb x y))
  where
    step : (ltb x y ≡ true) ⊎ (ltb x y ≡ false) → y ≤ x
    step (inl t) =
        let from : rises_from y (y ∷ xs) ≡ true = both (leb y y) _ (le-leb y y (omega arith)) (second (leb floor y) _ r) in
        absurd (clash h (not_lower (y ∷ xs) y x from (ltb-true x y t)))
    step (inr t) = ltb-false x y t

pub rising_same :
    (xs ys : List ℕ) (floor : ℕ) → rises_from floor xs ≡ true → rises_from floor ys ≡ true →
    ((a : ℕ) → any (eqb a) xs ≡ any (eqb a) ys) → xs ≡ ys
unfolding rises_from any
rising_same [] [] floor r q h = refl
rising_same [] (y ∷ ys) floor r q h = absurd (clash (h y ∙ holds_head y ys) refl)
rising_same (x ∷ xs) [] floor r q h = absurd (clash (sym (h x) ∙ holds_head x xs) refl)
rising_same (x ∷ xs) (y ∷ ys) floor r q h =
    let low : y ≤ x = head_least ys y x floor q (sym (h x) ∙ holds_head x xs) in
    let high : x ≤ y = head_least xs x y floor r (h y ∙ holds_head y ys) in
    let e : x ≡ y = omega arith in
    same_cons x y xs ys e
    (rising_same xs ys (suc x) (second (leb floor x) _ r) (rw (sym e) at (second (leb floor y) _ q)) (λ a. tails a e (decided (eqb a x))))
  where
    tails : (a : ℕ) → x ≡ y → (eqb a x ≡ true) ⊎ (eqb a x ≡ false) → any (eqb a) xs ≡ any (eqb a) ys
    tails a e (inl t) =
        let same = eqb-true a x t in
        not_lower xs (suc x) a (second (leb floor x) _ r) (omega arith) ∙ sym (not_lower ys (suc y) a (second (leb floor y) _ q) (omega arith))
    tails a e (inr t) =
        let here : (eqb a x || any (eqb a) xs) ≡ (eqb a y || any (eqb a) ys) = h a in
        let u : eqb a y ≡ false = rw (sym e) t in
        rw (t, u) at here

-- ── Marked atoms ──

marked_here : (marks : List ℕ) (atom : ℕ) → is_declared marks atom ≡ true → marked_atom marks atom ≡ atom ∷ []
unfolding marked_atom
marked_here marks atom t = rw t

marked_not : (marks : List ℕ) (atom : ℕ) → is_declared marks atom ≡ false → marked_atom marks atom ≡ []
unfolding marked_atom
marked_not marks atom t = rw t

module _ (marks : List ℕ) where
  below_joined : (n : ℕ) → Below n (join_below n (marked_atom marks))
  unfolding join_below all
  below_joined zero = refl
  below_joined (suc n) = all_both (λ (x : ℕ). ltb x (suc n)) (join_below n (marked_atom marks)) (marked_atom marks n) (below_more (join_below n (marked_atom marks)) n (below_joined n)) (last (decided (is_declared marks n)))
    where
      last : (is_declared marks n ≡ true) ⊎ (is_declared marks n ≡ false) → Below (suc n) (marked_atom marks n)
      last (inl t) = rw (marked_here marks n t, lt-ltb n (suc n) (omega arith))
      last (inr t) = rw (marked_not marks n t)

  rises_joined : (n : ℕ) → rises_from 0 (join_below n (marked_atom marks)) ≡ true
  unfolding join_below rises_from
  rises_joined zero = refl
  rises_joined (suc n) = rises_then (join_below n (marked_atom marks)) (marked_atom marks n) 0 n (rises_joined n) (below_joined n) (omega arith) (last (decided (is_declared marks n)))
    where
      last : (is_declared marks n ≡ true) ⊎ (is_declared marks n ≡ false) → rises_from n (marked_atom marks n) ≡ true
      last (inl t) = rw (marked_here marks n t, le-leb n n (omega arith))
      last (inr t) = rw (marked_not marks n t)

  any_joined : (a : ℕ) (xs ys : List ℕ) → any (eqb a) (xs ++ ys) ≡ (any (eqb a) xs || any (eqb a) ys)
  unfolding any
  any_joined a [] ys = refl
  any_joined a (x ∷ xs) ys = ap (λ (b : Bool). eqb a x || b) (any_joined a xs ys) ∙ sym (or_assoc (eqb a x) _ _)
    where
      or_assoc : (p q r : Bool) → ((p || q) || r) ≡ (p || (q || r))
      or_assoc true q r = refl
      or_assoc false q r = refl

  -- An atom is among those below n that are marked exactly if it is one.
  holds_marked : (n a : ℕ) → any (eqb a) (join_below n (marked_atom marks)) ≡ (ltb a n && is_declared marks a)
  unfolding join_below any
  holds_marked zero a = rw (le-ltb a 0 (omega arith))
  holds_marked (suc n) a =
      any_joined a (join_below n (marked_atom marks)) (marked_atom marks n) ∙
      (ap (λ (b : Bool). b || any (eqb a) (marked_atom marks n)) (holds_marked n a) ∙ step (decided (eqb a n)) (decided (is_declared marks n)))
    where
      or_false : (b : Bool) → (b || false) ≡ b
      or_false true = refl
      or_false false = refl

      other : (eqb a n ≡ false) → ltb a n ≡ ltb a (suc n)
      other t = side (decided (ltb a n))
        where
          side : (ltb a n ≡ true) ⊎ (ltb a n ≡ false) → ltb a n ≡ ltb a (suc n)
          side (inl u) = let l = ltb-true a n u in u ∙ sym (lt-ltb a (suc n) (omega arith))
          side (inr u) =
              let l = ltb-false a n u in
              let d = eqb-false a n t in
              u ∙ sym (le-ltb a (suc n) (apart l d))
            where
              apart : n ≤ a → (a ≡ n → ⊥) → suc n ≤ a
              apart l d = beyond (decided (ltb n a))
                where
                  beyond : (ltb n a ≡ true) ⊎ (ltb n a ≡ false) → suc n ≤ a
                  beyond (inl v) = ltb-true n a v
                  beyond (inr v) = let k = ltb-false n a v in absurd (d (omega arith))

      step :
          (eqb a n ≡ true) ⊎ (eqb a n ≡ false) → (is_declared marks n ≡ true) ⊎ (is_declared marks n ≡ false) →
          ((ltb a n && is_declared marks a) || any (eqb a) (marked_atom marks n)) ≡ (ltb a (suc n) && is_declared marks a)
      step (inl e) (inl t) =
          let same = eqb-true a n e in
          rw (marked_here marks n t, e, lt-ltb a (suc n) (omega arith), same, t) (or_true (ltb n n))
        where
          or_true : (b : Bool) → ((b && true) || true) ≡ true
          or_true true = refl
          or_true false = refl
      step (inl e) (inr t) =
          let same = eqb-true a n e in
          rw (marked_not marks n t, same, t) (and_false (ltb n n) (ltb n (suc n)))
        where
          and_false : (b c : Bool) → ((b && false) || false) ≡ (c && false)
          and_false true true = refl
          and_false true false = refl
          and_false false true = refl
          and_false false false = refl
      step (inr e) (inl t) = rw (marked_here marks n t, e) (or_false _ ∙ ap (λ (b : Bool). b && is_declared marks a) (other e))
      step (inr e) (inr t) = rw (marked_not marks n t) (or_false _ ∙ ap (λ (b : Bool). b && is_declared marks a) (other e))

pub marked_holds : (n : ℕ) (marks : List ℕ) (a : ℕ) → any (eqb a) (marked_atoms n marks) ≡ (ltb a n && is_declared marks a)
unfolding marked_atoms
marked_holds n marks a = holds_marked marks n a

declared_one : (marks : List ℕ) (k : ℕ) → is_declared marks k ≡ true → get_or marks k 0 ≡ 1
unfolding is_declared
declared_one marks k t = eqb-true (get_or marks k 0) 1 t

declared_none : (marks : List ℕ) (k : ℕ) → get_or marks k 0 ≤ 1 → is_declared marks k ≡ false → get_or marks k 0 ≡ 0
unfolding is_declared
declared_none marks k small t = let d = eqb-false (get_or marks k 0) 1 t in below_one (get_or marks k 0) small d
  where
    below_one : (m : ℕ) → m ≤ 1 → (m ≡ 1 → ⊥) → m ≡ 0
    below_one zero h d = refl
    below_one (suc zero) h d = absurd (d refl)
    below_one (suc (suc m)) h d = absurd (omega arith)

ones_declared : (n : ℕ) (atoms : List ℕ) (a : ℕ) → a < n → is_declared (ones_at n atoms) a ≡ any (eqb a) atoms
unfolding is_declared ones_at
ones_declared n atoms a l = rw (get_d_tabulate {A = ℕ} n (λ k. cond (any (eqb k) atoms) 1 0) a 0 l) (told (any (eqb a) atoms))
  where
    told : (b : Bool) → eqb (cond b 1 0) 1 ≡ b
    told true = refl
    told false = refl

none_beyond : (atoms : List ℕ) (n a : ℕ) → Below n atoms → n ≤ a → any (eqb a) atoms ≡ false
unfolding all any
none_beyond [] n a b h = refl
none_beyond (x ∷ xs) n a b h =
    let l = ltb-true x n (first (ltb x n) _ b) in
    rw (ne_eqb a x (λ e. omega arith)) (none_beyond xs n a (second (ltb x n) _ b) h)

pub marked_rises : (n : ℕ) (marks : List ℕ) → rises_from 0 (marked_atoms n marks) ≡ true
unfolding marked_atoms
marked_rises n marks = rises_joined marks n

pub marked_below : (n : ℕ) (marks : List ℕ) → Below n (marked_atoms n marks)
unfolding marked_atoms
marked_below n marks = below_joined marks n

-- Marks that are 0 and 1 are the ones at the marked atoms.
pub marks_again :
    (n : ℕ) (marks : List ℕ) → length marks ≡ n → ((atom : ℕ) → atom < n → get_or marks atom 0 ≤ 1) → ones_at n (marked_atoms n marks) ≡ marks
unfolding ones_at marked_atoms
marks_again n marks long small = ext_get_or 0 (tabulate n one) marks (length_tabulate n one ∙ sym long) (λ k l. at k (omega (arith, length_tabulate n one)))
  where
    entry : (k : ℕ) → k < n → (is_declared marks k ≡ true) ⊎ (is_declared marks k ≡ false) → cond (is_declared marks k) 1 0 ≡ get_or marks k 0
    entry k low (inl t) = rw t (sym (declared_one marks k t))
    entry k low (inr t) = rw t (sym (declared_none marks k (small k low) t))

    one : ℕ → ℕ
    one a = cond (any (eqb a) (join_below n (marked_atom marks))) 1 0

    at : (k : ℕ) → k < n → get_or (tabulate n one) k 0 ≡ get_or marks k 0
    at k low =
        get_d_tabulate n one k 0 low ∙
        (ap (λ (b : Bool). cond b 1 0) (holds_marked marks n k ∙ ap (λ (b : Bool). b && is_declared marks k) (lt-ltb k n low)) ∙ entry k low (decided (is_declared marks k)))

-- Atoms that rise below n are marked again by the ones at them.
pub marked_again : (n : ℕ) (atoms : List ℕ) → rises_from 0 atoms ≡ true → Below n atoms → marked_atoms n (ones_at n atoms) ≡ atoms
marked_again n atoms rises low =
    rising_same (marked_atoms n (ones_at n atoms)) atoms 0 (marked_rises n (ones_at n atoms)) rises
    (λ a. marked_holds n (ones_at n atoms) a ∙ step a (decided (ltb a n)))
  where
    step : (a : ℕ) → (ltb a n ≡ true) ⊎ (ltb a n ≡ false) → (ltb a n && is_declared (ones_at n atoms) a) ≡ any (eqb a) atoms
    step a (inl t) = rw t (ones_declared n atoms a (ltb-true a n t))
    step a (inr t) = rw t (sym (none_beyond atoms n a low (ltb-false a n t)))
