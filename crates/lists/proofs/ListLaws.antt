-- Lists of parts, as the code's loops read them: how many, whether they are within their limits, and what was stored.
-- Assumes nothing.
use Prim.Native.Nat.{ℕ, ◌+◌, ◌*◌, ◌≤◌}
use mathlib.Core.Path.{◌≡◌, refl, sym, ap, ◌∙◌}
use mathlib.Core.Bool.{Bool, true, false, cond, ◌&&◌}
use mathlib.Core.List.{List, [], ◌∷◌, ◌++◌, map, map-append}
use native.Mathlib.Omega.{arith}
use lib.Dec.{ltb}
use lib.ListN.{length, drop, set, length-append, length-map}
use lib.Seq.{sets}
use borrow.Author.Tests.{ltb-true, lt-ltb}
use Rattle.tables.specs.Limits.{max_atoms}
use Rattle.std.specs.Prelude.{Option, None, Some}
use Rattle.wellfounded.specs.Lists.{all}
use Rattle.wellfounded.proofs.Tests.{first, second, same_test}
use Rattle.format.specs.Forms.{LiteralText, space, closing}
use Rattle.format.specs.Words.{word_at}
use Rattle.format.specs.Parse.{Reading, refused, parts}
use Rattle.numerals.specs.internal.Offsets.{capped, answered}
use Rattle.items.specs.Items.{code_of, literal_code}
use Rattle.items.specs.internal.Places.{capped_code}
use Rattle.numerals.proofs.CappedLaws.{capped_small, capped_below}
use Rattle.format.proofs.Pieces.{Inverse}
use Rattle.items.proofs.ItemLaws.{GotAt, byte_got}
use Rattle.items.proofs.ItemChains.{offset_left}
use Rattle.judging.specs.Judging.{literal_within}
use Rattle.lists.specs.declared.Parts.{Parts}
use Rattle.lists.specs.internal.Lists.{stored, parts_of, Lists}
use Rattle.lists.proofs.StoreLaws.{stored_small, sets_behind}
use Rattle.items.proofs.PartLaws.{Came, all_snoc, came_start, came_turn, came_refused, came_unclosed, came_end}

-- One more part, stored after the others.
module _ {A B : Type 0} (f : A → B) (before : List B) (from : ℕ) (xs : List A) (x : A) where
  pub laid_more :
      {now after : List B} {place : ℕ} → place ≡ from + length xs → now ≡ sets before from (map f xs) → after ≡ set now place (f x) →
      after ≡ sets before from (map f (xs ++ (x ∷ [])))
  laid_more {now} {after} {place} p e s =
      let here : place ≡ from + length (map f xs) = omega (arith, length-map xs f) in
      rw (map-append f xs (x ∷ []), ← sets_behind before (map f xs) (f x ∷ []) from place here, ← e) s

-- A loop over parts has come to `next`: it has read some, counted them and tested them; W says of them what was stored.
module _ {A : Type 0} where
  pub record PartsRead (item : List ℕ → Reading A) (within : A → Bool) (ordered : List A → Bool) (text : List ℕ) (at next count : ℕ) (fine rise : Bool) (W : List A → Type 0) : Type 0 where
    pub xs : List A
    pub came : Came item text at next xs
    pub counted : count ≡ length xs
    pub tested : fine ≡ all within xs
    pub rises : rise ≡ ordered xs
    pub laid : all within xs ≡ true → W xs

  pub listing_start :
      {item : List ℕ → Reading A} {within : A → Bool} {ordered : List A → Bool} {text : List ℕ} {at : ℕ} {W : List A → Type 0} →
      at ≤ length text → true ≡ ordered [] → W [] → PartsRead item within ordered text at at 0 true true W
  unfolding all
  listing_start l r w = record { xs = []; came = came_start l; counted = refl; tested = refl; rises = r; laid = λ t. w }

module _ {A : Type 0} (bytes : A → List ℕ) (item : List ℕ → Reading A) (inverse : Inverse bytes item) {within : A → Bool} {ordered : List A → Bool}
    {text : List ℕ} {at next count : ℕ} {fine rise : Bool} {W : List A → Type 0} (listing : PartsRead item within ordered text at next count fine rise W) where
  pub listing_turn :
      {after : ℕ} {x : A} {more : ℕ} {fine₁ rise₁ : Bool} {W₁ : List A → Type 0} → word_at text next (space ∷ []) ≡ true →
      GotAt item text (next + 1) after x →
      more ≡ count + 1 → fine₁ ≡ (fine && within x) → rise₁ ≡ ordered (listing.xs ++ (x ∷ [])) →
      ((ys : List A) → length ys ≡ count → all within ys ≡ true → within x ≡ true → W ys → W₁ (ys ++ (x ∷ []))) →
      PartsRead item within ordered text at after more fine₁ rise₁ W₁
  listing_turn {after} {x} {more} {fine₁} {rise₁} {W₁} h g m f r store =
      let ys = listing.xs in
      let both : all within (ys ++ (x ∷ [])) ≡ (all within ys && within x) = all_snoc within ys x in
      record {
        xs = ys ++ (x ∷ []);
        came = came_turn bytes item inverse listing.came h g;
        counted = omega (arith, m, listing.counted, length-append ys (x ∷ []));
        tested = f ∙ (ap (λ (b : Bool). b && within x) listing.tested ∙ sym both);
        rises = r;
        laid = λ t.
            let u : (all within ys && within x) ≡ true = sym both ∙ t in
            store ys (sym listing.counted) (first (all within ys) (within x) u) (second (all within ys) (within x) u) (listing.laid (first (all within ys) (within x) u));
      }

  none :
      (answer : Option (Parts × ℕ)) → None ≡ answer → parts item (drop at text) ≡ refused →
      Lists text within ordered (parts item (drop at text)) answer W
  unfolding answered
  none answer a e = record { answered = rw e (sym a); laid = rw e tt }

  pub listing_refused :
      {answer : Option (Parts × ℕ)} → answer ≡ None → word_at text next (space ∷ []) ≡ true → item (drop (next + 1) text) ≡ refused →
      Lists text within ordered (parts item (drop at text)) answer W
  listing_refused a h e = none _ (sym a) (came_refused bytes item inverse listing.came h e)

  pub listing_unclosed :
      word_at text next (space ∷ []) ≡ false → word_at text next (closing ∷ []) ≡ false →
      Lists text within ordered (parts item (drop at text)) None W
  listing_unclosed s c = none None refl (came_unclosed bytes item inverse listing.came s c)

  pub listing_end :
      word_at text next (closing ∷ []) ≡ true →
      Lists text within ordered (parts item (drop at text)) (Some (record { count = count; within = fine; ordered = rise }, next + 1)) W
  unfolding answered parts_of
  listing_end c =
      let e = came_end bytes item inverse listing.came c in
      let l = (byte_got text next closing c).1 in
      record {
        answered = rw (e, offset_left text (next + 1) (omega arith), sym listing.counted, sym listing.tested, sym listing.rises) refl;
        laid = rw e listing.laid;
      }

-- What the loop over literals has stored.
unfoldable pub LaidLiterals : List ℕ → ℕ → List ℕ → List LiteralText → Type 0
LaidLiterals before from now ls = now ≡ sets before from (map literal_code ls)

-- A code is below twice the most atoms exactly if its atom is below the most.
code_below : (atom : ℕ) (negated : Bool) → ltb (atom * 2 + cond negated 1 0) (2 * max_atoms) ≡ ltb atom max_atoms
code_below atom true =
    same_test _ _ (λ t. lt-ltb atom max_atoms (omega (arith, ltb-true (atom * 2 + 1) (2 * max_atoms) t))) (λ t. lt-ltb (atom * 2 + 1) (2 * max_atoms) (omega (arith, ltb-true atom max_atoms t)))
code_below atom false =
    same_test _ _ (λ t. lt-ltb atom max_atoms (omega (arith, ltb-true (atom * 2 + 0) (2 * max_atoms) t))) (λ t. lt-ltb (atom * 2 + 0) (2 * max_atoms) (omega (arith, ltb-true atom max_atoms t)))

-- A literal is within its limits exactly if its code is, and then nothing of it was lost.
module _ (l : LiteralText) where
  pub literal_tested : ltb (capped_code l) (2 * max_atoms) ≡ literal_within l
  unfolding capped_code code_of literal_within
  literal_tested = code_below (capped l.atom) l.negated ∙ capped_below l.atom max_atoms (omega arith)

  pub literal_whole : literal_within l ≡ true → capped_code l ≡ literal_code l
  unfolding capped_code literal_code literal_within
  literal_whole t = ap (λ (atom : ℕ). code_of atom l) (capped_small l.atom (omega (arith, ltb-true l.atom max_atoms t)))

-- One more literal stored.
module _ (before now : List ℕ) (from : ℕ) where
  pub literal_stored :
      (after : List ℕ) (l : LiteralText) {count place : ℕ} → after ≡ stored (ltb (capped_code l) 65536) now place (capped_code l) →
      place ≡ from + count →
      (ls : List LiteralText) → length ls ≡ count → literal_within l ≡ true → LaidLiterals before from now ls →
      LaidLiterals before from after (ls ++ (l ∷ []))
  unfolding LaidLiterals
  literal_stored after l {count} {place} e p ls n t laid =
      let small : ltb (capped_code l) 65536 ≡ true = lt-ltb (capped_code l) 65536 (omega (arith, ltb-true (capped_code l) (2 * max_atoms) (literal_tested l ∙ t))) in
      let here : place ≡ from + length ls = omega (arith, p, n) in
      laid_more literal_code before from ls l here laid (e ∙ sym (stored_small now place (capped_code l) small) ∙ ap (λ (code : ℕ). set now place code) (literal_whole l t))
