-- Laws of entries set in a table one after the other, and of a table that is its used part and beyond it what it held.
-- Assumes nothing.
use Prim.Native.Nat.{ℕ, suc, ◌+◌, ◌≤◌, ◌<◌}
use mathlib.Core.Path.{◌≡◌, refl, ap, ◌∙◌}
use mathlib.Core.List.{List, [], ◌∷◌, append-nil}
use native.Mathlib.Omega.{arith}
use lib.ListN.{length, take, set, length-append, length-drop}
use lib.Seq.{sets, sets-eq, take_at, drop-nil, set-set, set_comm}
use Rattle.forms.specs.Contents.{over}

module _ {A : Type 0} where
  -- One set before others may as well be set first.
  set_sooner : (held xs : List A) (n m : ℕ) (a : A) → n < m → set (sets held m xs) n a ≡ sets (set held n a) m xs
  set_sooner held [] n m a l = refl
  set_sooner held (x ∷ xs) n m a l =
      set_sooner (set held m x) xs n (suc m) a (omega arith) ∙ ap (λ (h : List A). sets h (suc m) xs) (set_comm held m n x a (λ e. omega arith))

  -- Entries set anew at the same place leave those that they do not reach.
  pub sets_anew : (held xs ys : List A) (n : ℕ) → sets (sets held n xs) n ys ≡ sets held n (over ys xs)
  unfolding over
  sets_anew held xs [] n = refl
  sets_anew held [] (y ∷ ys) n = rw append-nil
  sets_anew held (x ∷ xs) (y ∷ ys) n =
      ap (λ (h : List A). sets h (suc n) ys) (set_sooner (set held n x) xs n (suc n) y (omega arith) ∙ ap (λ (h : List A). sets h (suc n) xs) (set-set held n x y))
      ∙ sets_anew (set held n y) xs ys (suc n)

  -- Where a table has room for them, entries set from its front are its used part.
  pub sets_front : (held xs : List A) → length xs ≤ length held → sets held 0 xs ≡ over xs held
  unfolding over
  sets_front held xs l = let none : 0 + length xs ≡ length xs = omega arith in sets-eq xs held 0 (omega arith) ∙ rw none

  module _ (used held : List A) where
    -- A table is as long as what it held and as its used part, and that part is its front.
    pub over_used : length used ≤ length (over used held)
    unfolding over
    over_used = rw length-append (omega arith)

    pub over_held : length held ≤ length (over used held)
    unfolding over
    over_held = rw (length-append, length-drop) (omega arith)

    pub over_front : (n : ℕ) → length used ≡ n → take n (over used held) ≡ used
    unfolding over
    over_front n e = take_at used _ n e

  -- Over nothing stands what is given.
  pub over_none : (xs : List A) → over xs [] ≡ xs
  unfolding over
  over_none xs = rw (drop-nil, append-nil)
