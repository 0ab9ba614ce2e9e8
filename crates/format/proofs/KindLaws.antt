-- Laws of a byte at an offset, and of the kinds whose words are looked for there one after the other.
-- Assumes nothing.
use Prim.Native.Nat.{ℕ, ◌≤◌, ◌<◌}
use mathlib.Core.Path.{◌≡◌, refl, sym}
use mathlib.Core.Bool.{Bool, true, false, cond, ◌&&◌}
use mathlib.Core.List.{List, [], ◌∷◌}
use lib.Dec.{eqb, ltb}
use lib.ListN.{length, get_or, drop_of_length-le}
use lib.Seq.{drop-cons}
use borrow.Author.Tests.{eqb-true, eqb-false, eq-eqb, ne_eqb, ltb-true, ltb-false}
use denote.Ref.{Bor}
use Rattle.std.specs.Prelude.{Option, None, Some, is_some, unwrap_or}
use Rattle.std.specs.Option.{option_eq, option_map}
use Rattle.wellfounded.proofs.Tests.{clash}
use Rattle.format.specs.declared.kinds.Kind.{Kind}
use Rattle.format.specs.declared.kinds.Kind.TheVariants.{Atoms, Rule, Clause, Load, Open, Claim, Defined}
use Rattle.format.specs.Words.{starts_with, word_at, word_of, kind_of, kind_at}

-- Whether a byte stands at an offset.
module _ (text : List ℕ) (at byte : ℕ) where
  pub byte_here : at < length text → word_at text at (byte ∷ []) ≡ eqb (get_or text at 0) byte
  unfolding word_at starts_with
  byte_here l = rw (drop-cons text at 0 l) (step (get_or text at 0) (eqb (get_or text at 0) byte) refl)
    where
      step : (b : ℕ) (t : Bool) → eqb b byte ≡ t → (eqb byte b && true) ≡ t
      step b true e = rw (eq-eqb byte b (sym (eqb-true b byte e)))
      step b false e = rw (ne_eqb byte b (λ s. eqb-false b byte e (sym s)))

  pub byte_beyond : length text ≤ at → word_at text at (byte ∷ []) ≡ false
  unfolding word_at starts_with
  byte_beyond l = rw (drop_of_length-le text l)

  pub byte_inside : word_at text at (byte ∷ []) ≡ true → at < length text
  byte_inside t = step (ltb at (length text)) refl
    where
      step : (b : Bool) → ltb at (length text) ≡ b → at < length text
      step true e = ltb-true _ _ e
      step false e = absurd (clash t (byte_beyond (ltb-false _ _ e)))

  -- The code looks the byte up, and compares what it finds.
  pub byte_told :
      (found : Option (Bor ℕ)) (wanted : Bor ℕ) → wanted.now ≡ byte → is_some found ≡ ltb at (length text) →
      unwrap_or (option_map (λ (b : Bor ℕ). b.now) found) 0 ≡ get_or text at 0 →
      option_eq (λ (x y : Bor ℕ). eqb x.now y.now) found (Some wanted) ≡ word_at text at (byte ∷ [])
  byte_told None wanted is inside got = sym (byte_beyond (ltb-false _ _ (sym inside)))
  byte_told (Some b) wanted is inside got = rw (is, got) (sym (byte_here (ltb-true _ _ (sym inside))))

-- The first of some kinds whose word stands at an offset.
module _ (text : List ℕ) (at : ℕ) where
  unfoldable pub first_kind : List Kind → Option Kind
  first_kind [] = None
  first_kind (k ∷ ks) = cond (word_at text at (word_of k)) (Some k) (first_kind ks)

  pub kind_first : kind_at text at ≡ first_kind (Atoms ∷ Rule ∷ Clause ∷ Load ∷ Open ∷ Claim ∷ Defined ∷ [])
  unfolding kind_at kind_of first_kind word_at word_of
  kind_first = refl

  pub kind_here : (k : Kind) (ks : List Kind) → word_at text at (word_of k) ≡ true → first_kind (k ∷ ks) ≡ Some k
  unfolding first_kind
  kind_here k ks t = rw t

  pub kind_later : (k : Kind) (ks : List Kind) → word_at text at (word_of k) ≡ false → first_kind (k ∷ ks) ≡ first_kind ks
  unfolding first_kind
  kind_later k ks f = rw f

  pub kind_none : first_kind [] ≡ None
  unfolding first_kind
  kind_none = refl
