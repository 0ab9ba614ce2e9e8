-- The computed `largest` is the largest unfounded set.
-- Assumes nothing.
use Prim.Native.Nat.{ℕ, ◌<◌, ◌%◌}
use mathlib.Core.Path.{◌≡◌, refl, sym, ap, ◌∙◌}
use mathlib.Core.Logic.{◌⊎◌, inl, inr, ⊎_elim}
use mathlib.Core.Bool.{Bool, true, false, ◌||◌, false≢true}
use mathlib.Core.List.{List, Memᴰ}
use native.Mathlib.Omega.{arith}
use lib.ListN.{length, get_or}
use lib.Seq.{ext_get_or}
use borrow.Author.Tests.{eqb-true, ne_eqb}
use Rattle.wellfounded.specs.Lists.{tabulate, count}
use Rattle.wellfounded.specs.Literals.{atom_of, is_positive, is_negated, literal_false}
use Rattle.wellfounded.specs.Definitions.{Rule, Definition, is_defined, every_rule}
use Rattle.wellfounded.specs.Unfounded.{rests_on, Unfounded, member, obstructed, shrink, largest}
use Rattle.wellfounded.proofs.Tests.{both, first, second, either, or_left, or_right}
use Rattle.wellfounded.proofs.Lists.{any_use, any_make, length_tabulate, get_d_tabulate, get_or_tabulate_beyond, iterate_keeps, iterate_settles, count_le, count_falls, le_or_lt}
use Rattle.wellfounded.proofs.Definitions.{defined_below, every_rule_use, every_rule_make}

-- What an unfounded set asks of one rule's body.
abbrev pub Obstructed : List ℕ → (ℕ → Bool) → List ℕ → Type 0
Obstructed s u body = (l : ℕ) × Memᴰ l body × ((literal_false s l ≡ true) ⊎ (rests_on u l ≡ true))

pub obstructed_use : (s : List ℕ) (u : ℕ → Bool) (body : List ℕ) → obstructed s u body ≡ true → Obstructed s u body
unfolding obstructed
obstructed_use s u body h =
    let found = any_use (λ (l : ℕ). literal_false s l || rests_on u l) body h in
    (found.0, found.1, either _ _ found.2)

pub obstructed_make : (s : List ℕ) (u : ℕ → Bool) (body : List ℕ) → Obstructed s u body → obstructed s u body ≡ true
unfolding obstructed
obstructed_make s u body o =
    any_make (λ (l : ℕ). literal_false s l || rests_on u l) body o.1
    (⊎_elim (λ (f : literal_false s o.0 ≡ true). or_left _ _ f) (λ (i : rests_on u o.0 ≡ true). or_right (literal_false s o.0) _ i) o.2)

-- A larger set is rested on by as many literals or more.
pub rests_on_map : (u v : ℕ → Bool) (l : ℕ) → ((a : ℕ) → u a ≡ true → v a ≡ true) → rests_on u l ≡ true → rests_on v l ≡ true
unfolding rests_on
rests_on_map u v l sub h = both (v (atom_of l)) _ (sub _ (first (u (atom_of l)) _ h)) (second (u (atom_of l)) _ h)

pub rests_on_member : (u : ℕ → Bool) (l : ℕ) → rests_on u l ≡ true → u (atom_of l) ≡ true
unfolding rests_on
rests_on_member u l h = first _ _ h

pub rests_on_positive : (u : ℕ → Bool) (l : ℕ) → rests_on u l ≡ true → is_negated l ≡ false
unfolding rests_on is_positive is_negated
rests_on_positive u l h = let p = second (u (atom_of l)) _ h in ne_eqb (l % 2) 1 (λ e. omega (arith, eqb-true))

module _ (d : Definition) (s : List ℕ) where
  shrink_use : (u : List Bool) (a : ℕ) → member (shrink d s u) a ≡ true → (member u a ≡ true) × (every_rule d a (obstructed s (member u)) ≡ true)
  unfolding member shrink
  shrink_use u a h =
      ⊎_elim (λ beyond. absurd (false≢true (sym (get_or_tabulate_beyond _ _ a false beyond) ∙ h)))
      (λ below. let t = sym (get_d_tabulate _ _ a false below) ∙ h in (first _ _ t, second (get_or u a false) _ t))
      (le_or_lt d.size a)

  shrink_make : (u : List Bool) (a : ℕ) → a < d.size → member u a ≡ true → every_rule d a (obstructed s (member u)) ≡ true → member (shrink d s u) a ≡ true
  unfolding member shrink
  shrink_make u a below m e = get_d_tabulate _ _ a false below ∙ both _ _ m e

  abbrev Sized : List Bool → Type 0
  Sized u = length u ≡ d.size

  shrink_sized : (u : List Bool) → Sized u → Sized (shrink d s u)
  unfolding shrink
  shrink_sized u h = length_tabulate _ _

  shrink_falls : (u : List Bool) → Sized u → (shrink d s u ≡ u) ⊎ (count d.size (member (shrink d s u)) < count d.size (member u))
  unfolding member
  shrink_falls u h =
      ⊎_elim (λ same. inl (ext_get_or false _ _ (shrink_sized u h ∙ sym h) (λ i l. same i (rw (← shrink_sized u h) l)))) (λ less. inr less)
      (count_falls d.size (member u) (member (shrink d s u)) (λ k l m. (shrink_use u k m).0))

  largest_fixed : shrink d s (largest d s) ≡ largest d s
  unfolding largest
  largest_fixed =
      iterate_settles Sized (shrink d s) (λ u. count d.size (member u)) shrink_sized shrink_falls d.size (tabulate d.size (is_defined d))
      (length_tabulate _ _) (count_le _ _)

  largest_defined : (a : ℕ) → member (largest d s) a ≡ true → is_defined d a ≡ true
  unfolding largest member
  largest_defined = iterate_keeps (λ u. (a : ℕ) → member u a ≡ true → is_defined d a ≡ true) (shrink d s) (λ u h a m. h a (shrink_use u a m).0) d.size _ start
    where
      start : (a : ℕ) → member (tabulate d.size (is_defined d)) a ≡ true → is_defined d a ≡ true
      start a m =
          ⊎_elim (λ beyond. absurd (false≢true (sym (get_or_tabulate_beyond _ _ a false beyond) ∙ m))) (λ below. sym (get_d_tabulate _ _ a false below) ∙ m)
          (le_or_lt d.size a)

  pub largest_unfounded : Unfounded d s (member (largest d s))
  largest_unfounded =
      record {
        of_defined = largest_defined;
        each_rule = λ r m h. obstructed_use s _ _ (every_rule_use d r.head _ (shrink_use (largest d s) r.head (rw largest_fixed h)).1 r m refl);
      }

  pub largest_holds : (u : ℕ → Bool) → Unfounded d s u → (a : ℕ) → u a ≡ true → member (largest d s) a ≡ true
  unfolding largest member
  largest_holds u unf = iterate_keeps (λ w. (a : ℕ) → u a ≡ true → member w a ≡ true) (shrink d s) turn d.size _ start
    where
      start : (a : ℕ) → u a ≡ true → member (tabulate d.size (is_defined d)) a ≡ true
      start a h = get_d_tabulate _ _ a false (defined_below d a (unf.of_defined a h)) ∙ unf.of_defined a h

      rule : (w : List Bool) → ((b : ℕ) → u b ≡ true → member w b ≡ true) → (a : ℕ) → u a ≡ true →
          (r : Rule) → Memᴰ r d.rules → r.head ≡ a → obstructed s (member w) r.body ≡ true
      rule w sub a h r m e =
          let o = unf.each_rule r m (ap u e ∙ h) in
          obstructed_make s (member w) r.body (o.0, o.1, ⊎_elim inl (λ i. inr (rests_on_map u (member w) o.0 sub i)) o.2)

      turn : (w : List Bool) → ((b : ℕ) → u b ≡ true → member w b ≡ true) → (a : ℕ) → u a ≡ true → member (shrink d s w) a ≡ true
      turn w sub a h = shrink_make w a (defined_below d a (unf.of_defined a h)) (sub a h) (every_rule_make d a (obstructed s (member w)) (rule w sub a h))
