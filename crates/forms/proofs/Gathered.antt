-- Lists of parts that were read: what their answer says, and that there are no more parts than bytes.
-- Assumes nothing.
use Prim.Native.Nat.{ℕ, ◌-◌, ◌≤◌, ◌<◌}
use mathlib.Core.Path.{◌≡◌, sym, ap, ◌∙◌}
use mathlib.Core.Bool.{Bool, true}
use mathlib.Core.List.{List, ◌++◌}
use native.Mathlib.Omega.{arith}
use lib.ListN.{length, drop, length-drop}
use Rattle.std.specs.Prelude.{Option, None, Some}
use Rattle.wellfounded.specs.Lists.{all}
use Rattle.format.specs.Forms.{parts_bytes}
use Rattle.format.specs.Parse.{Reading, got, refused, parts}
use Rattle.numerals.proofs.OffsetLaws.{answer_some, answer_none}
use Rattle.format.proofs.Readings.{holds_use}
use Rattle.format.proofs.Pieces.{Inverse}
use Rattle.format.proofs.Parts.{parts_many, parts_written}
use Rattle.lists.specs.declared.Parts.{Parts}
use Rattle.lists.specs.internal.Lists.{parts_of, Inside, Lists}

module _ {A : Type 0} where
  -- What a list that was read says: its parts, what is told of them, and what was written of them.
  pub record Gathered
      (text : List ℕ) (within : A → Bool) (ordered : List A → Bool) (reading : Reading (List A)) (told : Parts) (end : ℕ) (P : List A → Type 0)
      : Type 0 where
    pub xs : List A
    pub rest : List ℕ
    pub reads : reading ≡ got xs rest
    pub tells : told ≡ parts_of within ordered xs
    pub counted : told.count ≡ length xs
    pub rises : told.ordered ≡ ordered xs
    pub ended : end ≡ length text - length rest
    pub laid : all within xs ≡ true → P xs

  module _ {text : List ℕ} {within : A → Bool} {ordered : List A → Bool} {answer : Option (Parts × ℕ)} {P : List A → Type 0}
      {reading : Reading (List A)} (list : Lists text within ordered reading answer P) where
    pub gathered : {told : Parts} {end : ℕ} → answer ≡ Some (told, end) → Gathered text within ordered reading told end P
    unfolding parts_of
    gathered e =
        let g = answer_some (parts_of within ordered) text reading (sym list.answered ∙ e) in
        record {
          xs = g.0;
          rest = g.1;
          reads = g.2;
          tells = g.3;
          counted = ap (λ (p : Parts). p.count) g.3;
          rises = ap (λ (p : Parts). p.ordered) g.3;
          ended = g.4;
          laid = holds_use (λ xs rest. all within xs ≡ true → P xs) list.laid g.2;
        }

    pub gathered_none : answer ≡ None → reading ≡ refused
    gathered_none e = answer_none (parts_of within ordered) text reading (sym list.answered ∙ e)

  -- There are no more parts than bytes.
  pub parts_within :
      (bytes : A → List ℕ) (item : List ℕ → Reading A) → Inverse bytes item → (bs : List ℕ) {xs : List A} {rest : List ℕ} →
      parts item bs ≡ got xs rest → length xs ≤ length bs
  parts_within bytes item inverse bs {xs} {rest} e =
      rw (holds_use (λ ys end. bs ≡ parts_bytes bytes ys ++ end) (parts_written bytes item inverse bs) e) (omega (arith, parts_many bytes xs rest))

  -- so that the count has 16 bits.
  pub count_small :
      (bytes : A → List ℕ) (item : List ℕ → Reading A) → Inverse bytes item → (at : ℕ) →
      {text : List ℕ} {within : A → Bool} {ordered : List A → Bool} {answer : Option (Parts × ℕ)} {P : List A → Type 0} {start end : ℕ}
      {told : Parts} →
      Inside text start → Lists text within ordered (parts item (drop at text)) answer P → answer ≡ Some (told, end) →
      told.count < 65536
  count_small bytes item inverse at {text} i l e =
      let g = gathered l e in
      omega (arith, g.counted, parts_within bytes item inverse (drop at text) g.reads, length-drop at text, i.short)
