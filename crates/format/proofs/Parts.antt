-- Parts up to the closing bracket are read as they are written, if each part is; so are pairs, with their levels.
-- Assumes nothing.
use Prim.Native.Nat.{ℕ, zero, suc, ◌≤◌, ◌<◌}
use mathlib.Core.Path.{◌≡◌, refl, sym, ap, ◌∙◌}
use mathlib.Core.Bool.{Bool, true, false, ◌&&◌}
use mathlib.Core.List.{List, [], ◌∷◌, ◌++◌, append_assoc}
use native.Mathlib.Omega.{arith}
use native.Mathlib.Nat.{not-suc-le-zero}
use lib.Dec.{eqb}
use lib.ListN.{length, length-append}
use borrow.Author.Tests.{eqb-true, eqb-false, ne_eqb}
use Rattle.format.specs.Forms.{PairText, space, opening, closing, decimal, parts_bytes, pair_bytes}
use Rattle.format.specs.Words.{starts_with}
use Rattle.format.specs.Parse.{Reading, got, refused, Holds, and_then, skip, starts_with_digit, read_number, read_parts, parts, read_pair}
use Rattle.format.proofs.Readings.{holds_use, holds_cond, holds_then, skip_written}
use Rattle.format.proofs.Pieces.{Inverse, number_inverse, closing_ends, space_ends}

module _ {A : Type 0} (bytes : A → List ℕ) where
  -- No digit stands where a part ends.
  pub parts_end : (xs : List A) (rest : List ℕ) → starts_with_digit (parts_bytes bytes xs ++ rest) ≡ false
  unfolding parts_bytes
  parts_end [] rest = closing_ends rest
  parts_end (x ∷ xs) rest = space_ends _

  pub parts_many : (xs : List A) (rest : List ℕ) → length xs < length (parts_bytes bytes xs ++ rest)
  unfolding parts_bytes
  parts_many [] rest = omega arith
  parts_many (x ∷ xs) rest =
      simp append_assoc (simp length-append (omega (arith, simp length-append at (parts_many xs rest))))

no_more : (t : Bool) → (t && true) ≡ false → t ≡ false
no_more true h = h
no_more false h = refl

swapped : (b c : ℕ) → eqb c b ≡ false → eqb b c ≡ false
swapped b c h = ne_eqb b c (λ e. eqb-false c b h (sym e))

module _ {A : Type 0} (bytes : A → List ℕ) (item : List ℕ → Reading A) (inverse : Inverse bytes item) where
  parts_reads_with :
      (fuel : ℕ) (xs : List A) (rest : List ℕ) → length xs < fuel →
      read_parts item fuel (parts_bytes bytes xs ++ rest) ≡ got xs rest
  unfolding read_parts parts_bytes and_then
  parts_reads_with zero xs rest l = absurd (not-suc-le-zero l)
  parts_reads_with (suc fuel) [] rest l = refl
  parts_reads_with (suc fuel) (x ∷ xs) rest l =
      rw (append_assoc, inverse.reads x (parts_bytes bytes xs ++ rest) (parts_end bytes xs rest), parts_reads_with fuel xs rest (omega arith))

  parts_written_with : (fuel : ℕ) (bs : List ℕ) → Holds (λ xs rest. bs ≡ parts_bytes bytes xs ++ rest) (read_parts item fuel bs)
  unfolding read_parts parts_bytes
  parts_written_with zero bs = tt
  parts_written_with (suc fuel) [] = tt
  parts_written_with (suc fuel) (b ∷ bs) = step (λ cs. parts_written_with fuel cs)
    where
      Goal : List A → List ℕ → Type 0
      Goal xs rest = b ∷ bs ≡ parts_bytes bytes xs ++ rest

      step :
          ((cs : List ℕ) → Holds (λ xs rest. cs ≡ parts_bytes bytes xs ++ rest) (read_parts item fuel cs)) →
          Holds Goal (read_parts item (suc fuel) (b ∷ bs))
      step later =
          holds_cond Goal (eqb b closing) (got [] bs) _ (λ t. ap (λ (c : ℕ). c ∷ bs) (eqb-true b 41 t)) λ f.
          holds_cond Goal (eqb b space) _ refused
          (λ t. holds_then (λ x rest. bs ≡ bytes x ++ rest) Goal (item bs) _ (inverse.written bs) λ x rest e.
          holds_then (λ xs end. rest ≡ parts_bytes bytes xs ++ end) Goal (read_parts item fuel rest) _ (later rest) λ xs end d.
          rw (eqb-true b 32 t, e, d) (simp append_assoc))
          (λ g. tt)

  pub parts_reads : (xs : List A) (rest : List ℕ) → parts item (parts_bytes bytes xs ++ rest) ≡ got xs rest
  unfolding parts
  parts_reads xs rest = parts_reads_with _ xs rest (parts_many bytes xs rest)

  pub parts_written : (bs : List ℕ) → Holds (λ xs rest. bs ≡ parts_bytes bytes xs ++ rest) (parts item bs)
  unfolding parts
  parts_written bs = parts_written_with (length bs) bs

  parts_as : (bs : List ℕ) (xs : List A) (rest : List ℕ) → bs ≡ parts_bytes bytes xs ++ rest → parts item bs ≡ got xs rest
  parts_as bs xs rest e = ap (λ (cs : List ℕ). parts item cs) e ∙ parts_reads xs rest

  fuel_as :
      (fuel : ℕ) (bs : List ℕ) (xs : List A) (rest : List ℕ) → length bs ≤ fuel → bs ≡ parts_bytes bytes xs ++ rest →
      read_parts item fuel bs ≡ got xs rest
  fuel_as fuel bs xs rest l e =
      ap (λ (cs : List ℕ). read_parts item fuel cs) e ∙ parts_reads_with fuel xs rest (omega (arith, parts_many bytes xs rest, ap (λ (cs : List ℕ). length cs) e))

  -- How much fuel is left never matters,
  fuel_enough : (fuel : ℕ) (bs : List ℕ) → length bs ≤ fuel → read_parts item fuel bs ≡ parts item bs
  fuel_enough fuel bs l = step (read_parts item fuel bs) (parts item bs) refl refl
    where
      step : (r q : Reading (List A)) → read_parts item fuel bs ≡ r → parts item bs ≡ q → read_parts item fuel bs ≡ parts item bs
      step (got xs rest) q e f = e ∙ sym (parts_as bs xs rest (holds_use (λ ys end. bs ≡ parts_bytes bytes ys ++ end) (parts_written_with fuel bs) e))
      step refused (got xs rest) e f = fuel_as fuel bs xs rest l (holds_use (λ ys end. bs ≡ parts_bytes bytes ys ++ end) (parts_written bs) f) ∙ sym f
      step refused refused e f = e ∙ sym f

  -- so that parts are read one by one.
  pub parts_more :
      (bs : List ℕ) (x : A) (rest : List ℕ) → item bs ≡ got x rest →
      parts item (space ∷ bs) ≡ and_then (parts item rest) (λ xs end. got (x ∷ xs) end)
  unfolding parts read_parts and_then
  parts_more bs x rest e =
      let written : bs ≡ bytes x ++ rest = holds_use (λ y end. bs ≡ bytes y ++ end) (inverse.written bs) e in
      let long : length rest ≤ length bs = omega (arith, ap (λ (cs : List ℕ). length cs) written, length-append (bytes x) rest) in
      rw (e, fuel_enough (length bs) rest long)

  pub parts_refused : (bs : List ℕ) → item bs ≡ refused → parts item (space ∷ bs) ≡ refused
  unfolding parts read_parts and_then
  parts_refused bs e = rw e

  pub parts_closed : (bs : List ℕ) → parts item (closing ∷ bs) ≡ got [] bs
  unfolding parts read_parts
  parts_closed bs = refl

  pub parts_none : (bs : List ℕ) → starts_with (space ∷ []) bs ≡ false → starts_with (closing ∷ []) bs ≡ false → parts item bs ≡ refused
  unfolding parts read_parts starts_with
  parts_none [] s c = refl
  parts_none (b ∷ bs) s c = rw (swapped b closing (no_more (eqb closing b) c), swapped b space (no_more (eqb space b) s))

pair_reads : (p : PairText) (rest : List ℕ) → starts_with_digit rest ≡ false → read_pair (pair_bytes p ++ rest) ≡ got p rest
unfolding pair_bytes read_pair and_then skip
pair_reads p rest e =
    rw (
      append_assoc,
      number_inverse.reads p.value (parts_bytes decimal p.levels ++ rest) (parts_end decimal p.levels rest),
      parts_reads decimal read_number number_inverse p.levels rest,
    )

pair_written : (bs : List ℕ) → Holds (λ p rest. bs ≡ pair_bytes p ++ rest) (read_pair bs)
unfolding read_pair pair_bytes
pair_written bs =
    holds_then (λ o after. bs ≡ opening ∷ after) Goal (skip (opening ∷ []) bs) _ (skip_written (opening ∷ []) bs) λ o after e.
    holds_then (λ v rest. after ≡ decimal v ++ rest) Goal (read_number after) _ (number_inverse.written after) λ v rest f.
    holds_then (λ ks end. rest ≡ parts_bytes decimal ks ++ end) Goal (parts read_number rest) _ (parts_written decimal read_number number_inverse rest) λ ks end g.
    rw (e, f, g) (simp append_assoc)
  where
    Goal : PairText → List ℕ → Type 0
    Goal p rest = bs ≡ pair_bytes p ++ rest

pub pair_inverse : Inverse pair_bytes read_pair
pair_inverse = record { reads = pair_reads; written = pair_written }
