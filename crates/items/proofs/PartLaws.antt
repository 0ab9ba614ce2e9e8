-- A loop over the parts of a form or of a pair: some are read, and the rest are read where it has come to.
-- Assumes nothing.
use Prim.Native.Nat.{ℕ, ◌+◌, ◌≤◌}
use mathlib.Core.Path.{◌≡◌, refl, sym, ap, ◌∙◌}
use mathlib.Core.Bool.{Bool, true, false, ◌&&◌, and-true, and_assoc}
use mathlib.Core.List.{List, [], ◌∷◌, ◌++◌, append_assoc, append-nil}
use native.Mathlib.Omega.{arith}
use lib.ListN.{length, drop, length-append}
use lib.Seq.{drop-drop}
use Rattle.wellfounded.specs.Lists.{all}
use Rattle.format.specs.Forms.{space, closing}
use Rattle.format.specs.Words.{word_at}
use Rattle.format.specs.Parse.{Reading, got, refused, and_then, parts}
use Rattle.format.proofs.Pieces.{Inverse}
use Rattle.format.proofs.Parts.{parts_more, parts_refused, parts_closed, parts_none}
use Rattle.format.proofs.WordLaws.{started}
use Rattle.items.proofs.ItemLaws.{GotAt}

module _ {A : Type 0} where
  -- One more part at the end of a list.
  pub all_snoc : (p : A → Bool) (xs : List A) (x : A) → all p (xs ++ (x ∷ [])) ≡ (all p xs && p x)
  unfolding all
  all_snoc p [] x = and-true (p x)
  all_snoc p (y ∷ ys) x = rw (all_snoc p ys x) (sym (and_assoc (p y) (all p ys) (p x)))

  -- Parts read before the others.
  unfoldable pub prefixed : List A → Reading (List A) → Reading (List A)
  prefixed xs (got ys rest) = got (xs ++ ys) rest
  prefixed xs refused = refused

  -- The loop has read xs and come to `next`.
  pub record Came (item : List ℕ → Reading A) (text : List ℕ) (at next : ℕ) (xs : List A) : Type 0 where
    pub inside : next ≤ length text
    pub counted : length xs ≤ next
    pub rest : prefixed xs (parts item (drop next text)) ≡ parts item (drop at text)

  prefixed_none : (r : Reading (List A)) → prefixed [] r ≡ r
  unfolding prefixed
  prefixed_none (got ys rest) = refl
  prefixed_none refused = refl

  prefixed_one :
      (xs : List A) (x : A) (r : Reading (List A)) → prefixed (xs ++ (x ∷ [])) r ≡ prefixed xs (and_then r (λ ys end. got (x ∷ ys) end))
  unfolding and_then prefixed
  prefixed_one xs x (got ys rest) = ap (λ (zs : List A). got zs rest) (append_assoc xs (x ∷ []) ys)
  prefixed_one xs x refused = refl

  pub came_start : {item : List ℕ → Reading A} {text : List ℕ} {at : ℕ} → at ≤ length text → Came item text at at []
  came_start {item} {text} {at} l = record { inside = l; counted = omega arith; rest = prefixed_none (parts item (drop at text)) }

-- The byte that stands at an offset, and what comes after it.
byte_cons : (text : List ℕ) (at b : ℕ) → word_at text at (b ∷ []) ≡ true → drop at text ≡ b ∷ drop (at + 1) text
unfolding word_at
byte_cons text at b h = started (b ∷ []) (drop at text) h ∙ ap (λ (bs : List ℕ). b ∷ bs) (drop-drop 1 at text)

module _ {A : Type 0} (bytes : A → List ℕ) (item : List ℕ → Reading A) (inverse : Inverse bytes item) {text : List ℕ} {at next : ℕ} {xs : List A} (came : Came item text at next xs) where
  pub came_turn :
      {after : ℕ} {x : A} → word_at text next (space ∷ []) ≡ true → GotAt item text (next + 1) after x →
      Came item text at after (xs ++ (x ∷ []))
  came_turn {after} {x} h g =
      record {
        inside = g.inside;
        counted = omega (arith, length-append xs (x ∷ []), came.counted, g.on);
        rest =
            prefixed_one xs x (parts item (drop after text)) ∙
            ap (λ (r : Reading (List A)). prefixed xs r)
            (sym (ap (λ (bs : List ℕ). parts item bs) (byte_cons text next space h) ∙ parts_more bytes item inverse (drop (next + 1) text) x (drop after text) g.reads)) ∙
            came.rest;
      }

  pub came_refused : word_at text next (space ∷ []) ≡ true → item (drop (next + 1) text) ≡ refused → parts item (drop at text) ≡ refused
  unfolding prefixed
  came_refused h e =
      sym came.rest ∙
      ap (λ (r : Reading (List A)). prefixed xs r)
      (ap (λ (bs : List ℕ). parts item bs) (byte_cons text next space h) ∙ parts_refused bytes item inverse (drop (next + 1) text) e)

  pub came_unclosed : word_at text next (space ∷ []) ≡ false → word_at text next (closing ∷ []) ≡ false → parts item (drop at text) ≡ refused
  unfolding word_at prefixed
  came_unclosed s c = sym came.rest ∙ ap (λ (r : Reading (List A)). prefixed xs r) (parts_none bytes item inverse (drop next text) s c)

  pub came_end : word_at text next (closing ∷ []) ≡ true → parts item (drop at text) ≡ got xs (drop (next + 1) text)
  unfolding prefixed
  came_end c =
      sym came.rest ∙
      ap (λ (r : Reading (List A)). prefixed xs r) (ap (λ (bs : List ℕ). parts item bs) (byte_cons text next closing c) ∙ parts_closed bytes item inverse (drop (next + 1) text)) ∙
      rw (append-nil xs)
