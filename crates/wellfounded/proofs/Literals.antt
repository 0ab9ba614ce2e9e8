-- Laws of truth values and literals.
-- Assumes nothing.
use Prim.Native.Nat.{ℕ, zero, suc, ◌≤◌, ◌<◌, ◌%◌}
use mathlib.Core.Path.{◌≡◌, refl, sym, ap, ◌∙◌}
use mathlib.Core.Logic.{◌⊎◌, inl, inr, ⊎_elim}
use mathlib.Core.Bool.{Bool, true, false, cond, false≢true}
use mathlib.Core.List.{List}
use native.Mathlib.Omega.{arith}
use lib.Dec.{eqb, ltb}
use lib.ListN.{length, get_or, get_or-eq_default}
use borrow.Author.Tests.{eqb-true, eqb-false, eq-eqb, ne_eqb, le-ltb}
use Rattle.wellfounded.specs.Literals.{is_false, is_true, is_held, value_at, atom_of, is_positive, is_negated, literal_true, literal_false}
use Rattle.wellfounded.proofs.Lists.{le_or_lt, get_d_default}

pub true_value : (v : ℕ) → is_true v ≡ true → v ≡ 1
unfolding is_true
true_value zero h = absurd (false≢true h)
true_value (suc zero) h = refl
true_value (suc (suc v)) h = absurd (false≢true h)

pub false_value : (v : ℕ) → is_false v ≡ true → v ≡ 0
unfolding is_false
false_value zero h = refl
false_value (suc v) h = absurd (false≢true h)

-- The same tests as the code makes them.
pub false_test : (v : ℕ) → is_false v ≡ eqb v 0
unfolding is_false
false_test zero = refl
false_test (suc v) = sym (ne_eqb (suc v) 0 (λ e. omega arith))

pub true_test : (v : ℕ) → is_true v ≡ eqb v 1
unfolding is_true
true_test zero = refl
true_test (suc zero) = refl
true_test (suc (suc v)) = sym (ne_eqb (suc (suc v)) 1 (λ e. omega arith))

pub held_test : (v : ℕ) → is_held v ≡ ltb v 2
unfolding is_held
held_test zero = refl
held_test (suc zero) = refl
held_test (suc (suc v)) = sym (le-ltb (suc (suc v)) 2 (omega arith))

pub held_value : (v : ℕ) → is_held v ≡ true → (is_true v ≡ true) ⊎ (is_false v ≡ true)
unfolding is_held is_true is_false
held_value zero h = inr refl
held_value (suc zero) h = inl refl
held_value (suc (suc v)) h = absurd (false≢true h)

pub true_held : (v : ℕ) → is_true v ≡ true → is_held v ≡ true
unfolding is_true is_held
true_held zero h = absurd (false≢true h)
true_held (suc zero) h = refl
true_held (suc (suc v)) h = h

pub false_held : (v : ℕ) → is_false v ≡ true → is_held v ≡ true
unfolding is_false is_held
false_held zero h = refl
false_held (suc v) h = absurd (false≢true h)

pub true_false : (v : ℕ) → is_true v ≡ true → is_false v ≡ true → ⊥
unfolding is_true is_false
true_false zero t f = false≢true t
true_false (suc v) t f = false≢true f

-- An atom that a state holds lies below its end.
pub held_below : (s : List ℕ) (a : ℕ) → is_held (value_at s a) ≡ true → a < length s
unfolding value_at is_held
held_below s a h =
    ⊎_elim (λ (beyond : length s ≤ a). absurd (false≢true (sym (ap is_held (get_or-eq_default s 2 beyond)) ∙ h))) (λ (b : a < length s). b)
    (le_or_lt (length s) a)

-- Beyond its end a state holds nothing.
pub value_beyond : (s : List ℕ) (a : ℕ) → length s ≤ a → value_at s a ≡ 2
unfolding value_at
value_beyond s a h = get_or-eq_default s 2 h

-- Within a state the code reads the same value.
pub value_at_lem : (state : List ℕ) (atom : ℕ) → atom < length state → value_at state atom ≡ get_or state atom 0
unfolding value_at
value_at_lem state atom l = get_d_default state atom 2 0 l

pub held_at : (state : List ℕ) (atom : ℕ) → atom < length state → is_held (value_at state atom) ≡ ltb (get_or state atom 0) 2
held_at state atom l = rw (held_test, value_at_lem state atom l)

-- A literal's tests as the code makes them, which reads a value within the state.
module _ (s : List ℕ) (l : ℕ) (within : atom_of l < length s) where
  pub true_read : literal_true s l ≡ cond (is_negated l) (eqb (get_or s (atom_of l) 0) 0) (eqb (get_or s (atom_of l) 0) 1)
  unfolding literal_true value_at
  true_read = rw (false_test, true_test, get_d_default s (atom_of l) 2 0 within)

  pub false_read : literal_false s l ≡ cond (is_negated l) (eqb (get_or s (atom_of l) 0) 1) (eqb (get_or s (atom_of l) 0) 0)
  unfolding literal_false value_at
  false_read = rw (false_test, true_test, get_d_default s (atom_of l) 2 0 within)

pub positive_not_negated : (l : ℕ) → is_positive l ≡ true → is_negated l ≡ false
unfolding is_positive is_negated
positive_not_negated l h = ne_eqb (l % 2) 1 (λ e. omega (arith, eqb-true))

pub not_negated_positive : (l : ℕ) → is_negated l ≡ false → is_positive l ≡ true
unfolding is_positive is_negated
not_negated_positive l h = eq-eqb _ _ (rest (l % 2) (omega arith) (eqb-false _ _ h))
  where
    rest : (r : ℕ) → r < 2 → (r ≡ 1 → ⊥) → r ≡ 0
    rest zero small other = refl
    rest (suc zero) small other = absurd (other refl)
    rest (suc (suc r)) small other = absurd (omega arith)

module _ (s : List ℕ) (l : ℕ) where
  pub positive_true : is_negated l ≡ false → literal_true s l ≡ true → is_true (value_at s (atom_of l)) ≡ true
  unfolding literal_true
  positive_true n h = rw n at h

  pub positive_false : is_negated l ≡ false → literal_false s l ≡ true → is_false (value_at s (atom_of l)) ≡ true
  unfolding literal_false
  positive_false n h = rw n at h

  pub negated_false : is_negated l ≡ true → literal_false s l ≡ true → is_true (value_at s (atom_of l)) ≡ true
  unfolding literal_false
  negated_false n h = rw n at h

  pub positive_false_make : is_negated l ≡ false → is_false (value_at s (atom_of l)) ≡ true → literal_false s l ≡ true
  unfolding literal_false
  positive_false_make n h = rw n h

  pub true_atom_held : literal_true s l ≡ true → is_held (value_at s (atom_of l)) ≡ true
  unfolding literal_true
  true_atom_held h = step (is_negated l) h
    where
      step : (b : Bool) → cond b (is_false (value_at s (atom_of l))) (is_true (value_at s (atom_of l))) ≡ true → is_held (value_at s (atom_of l)) ≡ true
      step true t = false_held _ t
      step false t = true_held _ t

  pub false_atom_held : literal_false s l ≡ true → is_held (value_at s (atom_of l)) ≡ true
  unfolding literal_false
  false_atom_held h = step (is_negated l) h
    where
      step : (b : Bool) → cond b (is_true (value_at s (atom_of l))) (is_false (value_at s (atom_of l))) ≡ true → is_held (value_at s (atom_of l)) ≡ true
      step true t = true_held _ t
      step false t = false_held _ t

  pub literal_true_false : literal_true s l ≡ true → literal_false s l ≡ true → ⊥
  unfolding literal_true literal_false
  literal_true_false t f = step (is_negated l) t f
    where
      step : (b : Bool) → cond b (is_false (value_at s (atom_of l))) (is_true (value_at s (atom_of l))) ≡ true →
          cond b (is_true (value_at s (atom_of l))) (is_false (value_at s (atom_of l))) ≡ true → ⊥
      step true u v = true_false _ v u
      step false u v = true_false _ u v

-- A literal's truth goes by its atom's value alone.
pub literal_true_same :
    (s t : List ℕ) (l : ℕ) → value_at t (atom_of l) ≡ value_at s (atom_of l) → literal_true s l ≡ true → literal_true t l ≡ true
unfolding literal_true
literal_true_same s t l e h = rw e h

pub literal_false_same :
    (s t : List ℕ) (l : ℕ) → value_at t (atom_of l) ≡ value_at s (atom_of l) → literal_false s l ≡ true → literal_false t l ≡ true
unfolding literal_false
literal_false_same s t l e h = rw e h
