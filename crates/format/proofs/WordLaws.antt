-- Laws of words at an offset: what `skip` leaves after one, and how the code compares it with the bytes there.
-- Assumes nothing.
use Prim.Native.Nat.{ℕ, ◌-◌, ◌<◌, min}
use mathlib.Core.Path.{◌≡◌, refl, ap}
use mathlib.Core.Bool.{Bool, true, false, cond, ◌&&◌}
use mathlib.Core.List.{List, [], ◌∷◌, ◌++◌}
use native.Mathlib.Omega.{arith}
use lib.ListN.{length, take, drop, length-drop}
use lib.Dec.{eqb}
use Rattle.std.specs.Cmp.Lexicographic.{pointwise}
use Rattle.std.proofs.lemmas.List.{drop_min, take_rest}
use Rattle.format.specs.Parse.{got, refused, skip}
use Rattle.format.specs.Words.{starts_with, word_at}
use Rattle.format.proofs.Readings.{holds_use, skip_written}

-- Bytes begin with a word exactly if the word can be skipped, and then what is left comes after it.
pub skipped : (word bytes : List ℕ) → starts_with word bytes ≡ true → skip word bytes ≡ got [] (drop (length word) bytes)
unfolding starts_with skip
skipped [] bytes h = refl
skipped (w ∷ ws) [] h = let z : ◌≡◌ {A = ℕ} 0 1 = cc in absurd (omega arith)
skipped (w ∷ ws) (b ∷ bs) h = step (eqb w b) (skipped ws bs) h
  where
    step :
        (t : Bool) → (starts_with ws bs ≡ true → skip ws bs ≡ got [] (drop (length ws) bs)) → (t && starts_with ws bs) ≡ true →
        cond t (skip ws bs) refused ≡ got [] (drop (length ws) bs)
    step true later h = later h
    step false later h = let z : ◌≡◌ {A = ℕ} 0 1 = cc in absurd (omega arith)

pub not_skipped : (word bytes : List ℕ) → starts_with word bytes ≡ false → skip word bytes ≡ refused
unfolding starts_with skip
not_skipped [] bytes h = let z : ◌≡◌ {A = ℕ} 0 1 = cc in absurd (omega arith)
not_skipped (w ∷ ws) [] h = refl
not_skipped (w ∷ ws) (b ∷ bs) h = step (eqb w b) (not_skipped ws bs) h
  where
    step :
        (t : Bool) → (starts_with ws bs ≡ false → skip ws bs ≡ refused) → (t && starts_with ws bs) ≡ false →
        cond t (skip ws bs) refused ≡ refused
    step true later h = later h
    step false later h = refl

pub started : (word bytes : List ℕ) → starts_with word bytes ≡ true → bytes ≡ word ++ drop (length word) bytes
started word bytes h = holds_use (λ w rest. bytes ≡ word ++ rest) (skip_written word bytes) (skipped word bytes h)

-- Too few bytes hold no word.
too_short : (word bytes : List ℕ) → length bytes < length word → starts_with word bytes ≡ false
unfolding starts_with
too_short [] bytes l = absurd (omega arith)
too_short (w ∷ ws) [] l = refl
too_short (w ∷ ws) (b ∷ bs) l = step (eqb w b) (too_short ws bs (omega arith))
  where
    step : (t : Bool) → starts_with ws bs ≡ false → (t && starts_with ws bs) ≡ false
    step true later = later
    step false later = refl

-- The bytes that the code compares are the word's first and as many of the others.
begins_is : (word bytes : List ℕ) → pointwise eqb word (take (length word) bytes) ≡ starts_with word bytes
unfolding starts_with
begins_is [] bytes = refl
begins_is (w ∷ ws) [] = refl
begins_is (w ∷ ws) (b ∷ bs) = ap (λ (t : Bool). eqb w b && t) (begins_is ws bs)

module _ (text : List ℕ) (at : ℕ) (word : List ℕ) where
  pub word_short : length text - at < length word → word_at text at word ≡ false
  unfolding word_at
  word_short l = too_short word (drop at text) (rw (length-drop at text) l)

  -- From the end on as from beyond it, no bytes are left.
  pub word_told :
      {from : ℕ} → from ≡ min at (length text) → pointwise eqb word (take (length word) (take (length text - from) (drop from text))) ≡ word_at text at word
  unfolding word_at
  word_told e = rw (take_rest text _, e, drop_min at text) (begins_is word (drop at text))
