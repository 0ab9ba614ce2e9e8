-- Tests of every value of an enum whose variants hold nothing. They compute, so that no proof goes through the variants one by one.
-- Assumes nothing.
use Prim.Native.Nat.{ℕ, suc}
use mathlib.Core.Path.{◌≡◌, refl, sym, ap, subst, ◌∙◌}
use mathlib.Core.Logic.{inl, inr, ⊎_elim}
use mathlib.Core.Bool.{Bool, true, false, not, cond, ◌&&◌, ◌||◌, false≢true}
use mathlib.Core.List.{List, [], ◌∷◌}
use lib.Dec.{T, eqb}
use borrow.Author.Tests.{eq-eqb, not-true}
use denote.Struct.Field.{Field}
use denote.Enum.Declared.{Choice, Record, declared, tag_of}
use mir.Val.{has_key}
use types.Run.{OneOf, miss}
use Rattle.wellfounded.proofs.Tests.{first, second, either}

-- Whether a test passes at every variant.
abbrev pub every_choice : (variants : List (List Field)) → (Choice variants → Bool) → Bool
every_choice [] p = true
every_choice ([] ∷ variants) p = p (inl tt) && every_choice variants (λ c. p (inr c))
every_choice ((field ∷ fields) ∷ variants) p = false

every_choice_lem :
    (variants : List (List Field)) (p : Choice variants → Bool) → every_choice variants p ≡ true → (c : Choice variants) → p c ≡ true
every_choice_lem [] p e c = absurd c
every_choice_lem ([] ∷ variants) p e (inl nothing) = first (p (inl tt)) _ e
every_choice_lem ([] ∷ variants) p e (inr c) = every_choice_lem variants (λ c. p (inr c)) (second (p (inl tt)) _ e) c
every_choice_lem ((field ∷ fields) ∷ variants) p e c = absurd (false≢true e)

-- The places of the variants at which a test passes, counted from n.
abbrev pub choices_where : (variants : List (List Field)) → (Choice variants → Bool) → ℕ → List ℕ
choices_where [] p n = []
choices_where ([] ∷ variants) p n =
    let later = choices_where variants (λ c. p (inr c)) (suc n) in
    cond (p (inl tt)) (n ∷ later) later
choices_where ((field ∷ fields) ∷ variants) p n = []

-- Whether two values are of one variant.
abbrev pub same_choice : (variants : List (List Field)) → Choice variants → Choice variants → Bool
same_choice [] c e = true
same_choice ([] ∷ variants) (inl x) (inl y) = true
same_choice ([] ∷ variants) (inl x) (inr e) = false
same_choice ([] ∷ variants) (inr c) (inl y) = false
same_choice ([] ∷ variants) (inr c) (inr e) = same_choice variants c e
same_choice ((field ∷ fields) ∷ variants) c e = false

same_choice_lem : (variants : List (List Field)) (c e : Choice variants) → same_choice variants c e ≡ true → c ≡ e
same_choice_lem [] c e same = absurd c
same_choice_lem ([] ∷ variants) (inl x) (inl y) same = refl
same_choice_lem ([] ∷ variants) (inl x) (inr e) same = absurd (false≢true same)
same_choice_lem ([] ∷ variants) (inr c) (inl y) same = absurd (false≢true same)
same_choice_lem ([] ∷ variants) (inr c) (inr e) same = ap inr (same_choice_lem variants c e same)
same_choice_lem ((field ∷ fields) ∷ variants) c e same = absurd (false≢true same)

module _ (enum : Record) where
  -- A test that passes at every variant passes at every value: `every_value enum test refl`.
  abbrev pub every_value : (enum.D → Bool) → Bool
  every_value p = every_choice enum.parts (λ c. p (enum.make c))

  pub every_value_lem : (p : enum.D → Bool) → every_value p ≡ true → (x : enum.D) → p x ≡ true
  every_value_lem p e x =
      subst (λ (y : enum.D). p y ≡ true) (enum.eta x) (every_choice_lem enum.parts (λ c. p (enum.make c)) e (enum.as_values x))

  -- What the last arm of a match tells, where it takes the variants at which a test passes: the test passes.
  abbrev pub variants_where : (enum.D → Bool) → List ℕ
  variants_where p = choices_where enum.parts (λ c. p (enum.make c)) 0

  pub arm_passes :
      (p : enum.D → Bool) → every_value (λ x. not (has_key (variants_where p) (tag_of (declared enum) x)) || p x) ≡ true →
      (x : enum.D) → OneOf (variants_where p) (tag_of (declared enum) x) → p x ≡ true
  arm_passes p e x o =
      let taken = has_key (variants_where p) (tag_of (declared enum) x) in
      ⊎_elim (λ (other : not taken ≡ true). absurd (miss (variants_where p) (tag_of (declared enum) x) (subst T (sym other) tt) o))
      (λ (passes : p x ≡ true). passes)
      (either (not taken) (p x) (every_value_lem (λ y. not (has_key (variants_where p) (tag_of (declared enum) y)) || p y) e x))

  -- Two tests that agree at every variant agree at every value.
  pub every_same : (p q : enum.D → Bool) → every_value (λ x. cond (p x) (q x) (not (q x))) ≡ true → (x : enum.D) → p x ≡ q x
  every_same p q e x = agree (p x) (q x) (every_value_lem (λ x. cond (p x) (q x) (not (q x))) e x)
    where
      agree : (a b : Bool) → cond a b (not b) ≡ true → a ≡ b
      agree true b h = sym h
      agree false b h = sym (not-true b h)

  -- Numbers that differ from variant to variant tell the values apart.
  abbrev pub apart : (enum.D → ℕ) → enum.D → enum.D → Bool
  apart number x y = not (eqb (number x) (number y)) || same_choice enum.parts (enum.as_values x) (enum.as_values y)

  pub number_tells :
      (number : enum.D → ℕ) → every_value (λ x. every_value (apart number x)) ≡ true → (x y : enum.D) → number x ≡ number y → x ≡ y
  number_tells number differ x y same = sym (enum.eta x) ∙ ap enum.make (same_choice_lem enum.parts _ _ alike) ∙ enum.eta y
    where
      alike : same_choice enum.parts (enum.as_values x) (enum.as_values y) ≡ true
      alike =
          rw (eq-eqb (number x) (number y) same) at
          (every_value_lem (apart number x) (every_value_lem (λ x. every_value (apart number x)) differ x) y)
