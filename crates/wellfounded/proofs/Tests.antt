-- Laws of tests that are said to be true.
-- Assumes nothing.
use mathlib.Core.Path.{◌≡◌, refl, sym, subst}
use mathlib.Core.Logic.{◌⊎◌, inl, inr}
use mathlib.Core.Bool.{Bool, true, false, not, cond, ◌&&◌, ◌||◌, false≢true}

pub decided : (a : Bool) → (a ≡ true) ⊎ (a ≡ false)
decided true = inl refl
decided false = inr refl

pub clash : {a : Bool} → a ≡ true → a ≡ false → ⊥
clash {a} t f = false≢true (subst (λ (b : Bool). b ≡ true) f t)

pub not_both : (a : Bool) → (a ≡ true → ⊥) → a ≡ false
not_both true n = absurd (n refl)
not_both false n = refl

pub both : (a b : Bool) → a ≡ true → b ≡ true → (a && b) ≡ true
both true b p q = q
both false b p q = p

pub first : (a b : Bool) → (a && b) ≡ true → a ≡ true
first true b e = refl
first false b e = e

pub second : (a b : Bool) → (a && b) ≡ true → b ≡ true
second true b e = e
second false b e = absurd (false≢true e)

pub either : (a b : Bool) → (a || b) ≡ true → (a ≡ true) ⊎ (b ≡ true)
either true b e = inl refl
either false b e = inr e

pub or_left : (a b : Bool) → a ≡ true → (a || b) ≡ true
or_left true b e = refl
or_left false b e = absurd (false≢true e)

pub or_right : (a b : Bool) → b ≡ true → (a || b) ≡ true
or_right true b e = refl
or_right false b e = e

pub or_none : (a b : Bool) → b ≡ false → (a || b) ≡ a
or_none true b none = refl
or_none false b none = none

pub and_left : (a b : Bool) → a ≡ false → (a && b) ≡ false
and_left true b none = absurd (false≢true (sym none))
and_left false b none = refl

pub and_right : (a b : Bool) → b ≡ false → (a && b) ≡ false
and_right true b none = none
and_right false b none = refl

pub neither : (a b : Bool) → (a || b) ≡ false → (a ≡ false) × (b ≡ false)
neither true b e = absurd (false≢true (sym e))
neither false b e = (refl, e)

-- Where `a && not b` fails and a holds, b holds.
pub not_lacking : (a b : Bool) → (a && not b) ≡ false → a ≡ true → b ≡ true
not_lacking true true e t = refl
not_lacking true false e t = sym e
not_lacking false b e t = absurd (false≢true t)

pub none_lacking : (a b : Bool) → (a ≡ true → b ≡ true) → (a && not b) ≡ false
none_lacking true true f = refl
none_lacking true false f = sym (f refl)
none_lacking false b f = refl

-- `not a || b` says that a implies b.
pub implied : (a b : Bool) → (a ≡ true → b ≡ true) → (not a || b) ≡ true
implied true b f = f refl
implied false b f = refl

pub imply : (a b : Bool) → (not a || b) ≡ true → a ≡ true → b ≡ true
imply true b e t = e
imply false b e t = absurd (false≢true t)

pub same_test : (a b : Bool) → (a ≡ true → b ≡ true) → (b ≡ true → a ≡ true) → a ≡ b
same_test true true f g = refl
same_test true false f g = sym (f refl)
same_test false true f g = g refl
same_test false false f g = refl

module _ {A : Type 0} where
  pub cond_true : {a : Bool} (x y : A) → a ≡ true → cond a x y ≡ x
  cond_true x y e = rw e

  pub cond_false : {a : Bool} (x y : A) → a ≡ false → cond a x y ≡ y
  cond_false x y e = rw e
