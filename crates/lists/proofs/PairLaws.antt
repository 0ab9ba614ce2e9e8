-- Laws of claim pairs as the code's loops read and store them: values and the first group's levels in one pass, and one pass for each group more.
-- Assumes nothing.
use Prim.Native.Nat.{ℕ, zero, suc, ◌+◌, ◌-◌, ◌*◌, ◌≤◌, ◌<◌}
use mathlib.Core.Path.{◌≡◌, refl, sym, ap, ap₂, ◌∙◌}
use mathlib.Core.Bool.{Bool, true, false, ◌&&◌}
use mathlib.Core.List.{List, [], ◌∷◌, ◌++◌, map}
use native.Mathlib.Numerals.{add-one}
use native.Mathlib.Omega.{arith}
use Rattle.std.proofs.Math.Nat.{suc-mul}
use lib.Dec.{eqb, leb, ltb}
use lib.ListN.{length, get_or, drop, length-append, length-map}
use lib.Seq.{sets}
use borrow.Author.Tests.{leb-true, lt-ltb}
use Rattle.std.specs.Prelude.{None, Some}
use Rattle.wellfounded.specs.Lists.{all, join_below}
use Rattle.wellfounded.proofs.Tests.{first, second}
use Rattle.tables.specs.Limits.{max_value, max_level}
use Rattle.format.specs.Forms.{PairText, pair_bytes, space, closing}
use Rattle.format.specs.Words.{word_at}
use Rattle.format.specs.Parse.{Reading, got, refused, parts, read_pair}
use Rattle.items.specs.Items.{level_in, level_columns}
use Rattle.items.specs.internal.Places.{pair_at, pair_of, levels_of}
use Rattle.items.specs.declared.pairs.Pair.{Pair}
use Rattle.numerals.proofs.CappedLaws.{capped_small, capped_within}
use Rattle.format.proofs.Parts.{pair_inverse}
use Rattle.items.proofs.ItemLaws.{GotAt, byte_got, pair_got}
use Rattle.items.proofs.PartLaws.{all_snoc}
use Rattle.judging.specs.Judging.{pair_within, levels_for}
use Rattle.lists.specs.internal.Lists.{stored, Laid}
use Rattle.lists.proofs.StoreLaws.{stored_small, sets_behind}
use Rattle.lists.proofs.ListLaws.{PartsRead, listing_start, listing_turn, listing_refused, listing_unclosed, listing_end, laid_more}

-- ── One pair ──

-- A pair's level in any group is within the limit if all its levels are.
level_within : (ks : List ℕ) (group : ℕ) → all (λ k. leb k max_level) ks ≡ true → get_or ks group 0 ≤ max_level
unfolding all
level_within [] group t = omega arith
level_within (k ∷ ks) zero t = leb-true k max_level (first (leb k max_level) _ t)
level_within (k ∷ ks) (suc group) t = level_within ks group (second (leb k max_level) _ t)

-- Code tests a pair as its text is tested, and stores what its text says.
module _ (p : PairText) (group : ℕ) {pair : Pair} (keeps : pair ≡ pair_of group p) where
  pair_tested : (leb pair.value max_value && pair.levels.within) ≡ pair_within p
  unfolding pair_within pair_of levels_of
  pair_tested = rw (keeps, capped_within p.value max_value (omega arith))

  pair_levelled : (groups : ℕ) → eqb pair.levels.count groups ≡ levels_for groups p
  unfolding levels_for pair_of levels_of
  pair_levelled groups = rw keeps

  value_laid :
      (values₀ : List ℕ) {values values₁ : List ℕ} {place : ℕ} (ps : List PairText) → place ≡ length ps →
      values₁ ≡ stored (ltb pair.value (suc max_value)) values place pair.value → pair_within p ≡ true →
      values ≡ sets values₀ 0 (map (λ (q : PairText). q.value) ps) → values₁ ≡ sets values₀ 0 (map (λ (q : PairText). q.value) (ps ++ (p ∷ [])))
  unfolding pair_within pair_of
  value_laid values₀ {values} {values₁} {place} ps n v w laid =
      let small = leb-true p.value max_value (first (leb p.value max_value) _ w) in
      let x : pair.value ≡ p.value = ap (λ (it : Pair). it.value) keeps ∙ capped_small p.value (omega arith) in
      let here : place ≡ 0 + length ps = omega arith in
      laid_more (λ (q : PairText). q.value) values₀ 0 ps p here laid
      ((rw x at v) ∙ sym (stored_small values place p.value (lt-ltb p.value (suc max_value) (omega arith))))

  level_laid :
      (levels₀ : List ℕ) {levels levels₁ : List ℕ} {place : ℕ} (from : ℕ) (ps : List PairText) → place ≡ from + length ps →
      levels₁ ≡ stored (ltb pair.levels.level 65536) levels place pair.levels.level → pair_within p ≡ true → levels ≡ sets levels₀ from (map (level_in group) ps) →
      levels₁ ≡ sets levels₀ from (map (level_in group) (ps ++ (p ∷ [])))
  unfolding pair_within level_in pair_of levels_of
  level_laid levels₀ {levels} {levels₁} {place} from ps here k w laid =
      let small = level_within p.levels group (second (leb p.value max_value) _ w) in
      let y : pair.levels.level ≡ level_in group p = ap (λ (it : Pair). it.levels.level) keeps ∙ capped_small (level_in group p) (omega arith) in
      laid_more (level_in group) levels₀ from ps p here laid
      ((rw y at k) ∙ sym (stored_small levels place (level_in group p) (lt-ltb (level_in group p) 65536 (omega arith))))

-- A pair after a space.
module _ (text : List ℕ) (next group : ℕ) (spaced : word_at text next (space ∷ []) ≡ true) {pair : Pair} {after : ℕ}
    (read : pair_at text (next + 1) group ≡ Some (pair, after)) where
  pub pair_read : (p : PairText) × (pair ≡ pair_of group p) × GotAt read_pair text (next + 1) after p
  pair_read = let l = (byte_got text next space spaced).1 in pair_got group (omega arith) read

  pub pairs_on : length text - after < length text - next
  pairs_on = let g = pair_read.2 in omega (arith, g.on, g.inside)

-- ── The pass for values and the first group ──

abbrev pub values_laid : List ℕ → List ℕ → List ℕ → List ℕ → List PairText → Type 0
values_laid values₀ levels₀ values levels =
    λ ps. (values ≡ sets values₀ 0 (map (λ (p : PairText). p.value) ps)) × (levels ≡ sets levels₀ 0 (map (level_in 0) ps))

-- The loop has come to `next`.
pub record ValuesCame (text : List ℕ) (at groups : ℕ) (values₀ levels₀ values levels : List ℕ) (next count : ℕ) (fine levelled : Bool) : Type 0 where
  pub listing : PartsRead read_pair pair_within (all (levels_for groups)) text at next count fine levelled (values_laid values₀ levels₀ values levels)

module _ (text : List ℕ) (at groups : ℕ) (values levels : List ℕ) where
  pub values_start : at ≤ length text → ValuesCame text at groups values levels values levels at 0 true true
  unfolding all
  values_start l = record { listing = listing_start l refl (refl, refl) }

-- Each turn moves on in the text, and stores the pair that it has read.
module _ {text : List ℕ} {at groups : ℕ} {values₀ levels₀ values levels : List ℕ} {next count : ℕ} {fine levelled : Bool}
    (came : ValuesCame text at groups values₀ levels₀ values levels next count fine levelled) where
  pub values_count : count ≤ length text
  values_count = let l = came.listing in omega (arith, l.counted, l.came.counted, l.came.inside)

  module _ (spaced : word_at text next (space ∷ []) ≡ true) {pair : Pair} {after : ℕ} (read : pair_at text (next + 1) 0 ≡ Some (pair, after)) where
    pub values_turn :
        {values₁ levels₁ : List ℕ} → values₁ ≡ stored (ltb pair.value (suc max_value)) values count pair.value →
        levels₁ ≡ stored (ltb pair.levels.level 65536) levels count pair.levels.level →
        ValuesCame text at groups values₀ levels₀ values₁ levels₁ after (count + 1) (fine && (leb pair.value max_value && pair.levels.within)) (levelled && eqb pair.levels.count groups)
    values_turn v k =
        let r = pair_read text next 0 spaced read in
        let xs = came.listing.xs in
        record {
          listing =
              listing_turn pair_bytes read_pair pair_inverse came.listing spaced r.2 refl (ap (λ (b : Bool). fine && b) (pair_tested r.0 0 r.1))
              (ap₂ (λ (b c : Bool). b && c) came.listing.rises (pair_levelled r.0 0 r.1 groups) ∙ sym (all_snoc (levels_for groups) xs r.0))
              (λ ps n ws w laid.
              let place : count ≡ 0 + length ps = omega arith in
              (value_laid r.0 0 r.1 values₀ ps (sym n) v w laid.0, level_laid r.0 0 r.1 levels₀ 0 ps place k w laid.1));
        }

-- ── The pass for one group more ──

-- The loop has come to `next`; whether the pairs so far are within their limits it does not know.
pub record ColumnCame (text : List ℕ) (at group : ℕ) (levels₀ : List ℕ) (from : ℕ) (levels : List ℕ) (next count : ℕ) : Type 0 where
  pub fine : Bool
  pub listing : PartsRead read_pair pair_within (λ ps. true) text at next count fine true (λ ps. levels ≡ sets levels₀ from (map (level_in group) ps))

module _ (text : List ℕ) (at group : ℕ) (levels : List ℕ) (from : ℕ) where
  pub column_start : at ≤ length text → ColumnCame text at group levels from levels at 0
  column_start l = record { fine = true; listing = listing_start l refl refl }

module _ {text : List ℕ} {at group : ℕ} {levels₀ : List ℕ} {from : ℕ} {levels : List ℕ} {next count : ℕ}
    (came : ColumnCame text at group levels₀ from levels next count) where
  pub column_count : count ≤ length text
  column_count = let l = came.listing in omega (arith, l.counted, l.came.counted, l.came.inside)

  pub column_turn :
      (spaced : word_at text next (space ∷ []) ≡ true) {pair : Pair} {after : ℕ} → pair_at text (next + 1) group ≡ Some (pair, after) →
      {levels₁ : List ℕ} → levels₁ ≡ stored (ltb pair.levels.level 65536) levels (from + count) pair.levels.level →
      ColumnCame text at group levels₀ from levels₁ after (count + 1)
  column_turn spaced read k =
      let r = pair_read text next group spaced read in
      record {
        fine = came.fine && pair_within r.0;
        listing =
            listing_turn pair_bytes read_pair pair_inverse came.listing spaced r.2 refl refl refl
            (λ ps n ws w laid. let place : from + count ≡ from + length ps = omega arith in level_laid r.0 group r.1 levels₀ from ps place k w laid);
      }

  -- It ends where a pair is missing, or where no more follow.
  pub column_refused :
      word_at text next (space ∷ []) ≡ true → read_pair (drop (next + 1) text) ≡ refused →
      Laid pair_within (parts read_pair (drop at text)) (λ ps. levels ≡ sets levels₀ from (map (level_in group) ps))
  column_refused h e = (listing_refused pair_bytes read_pair pair_inverse came.listing {answer = None} refl h e).laid

  pub column_end :
      word_at text next (space ∷ []) ≡ false →
      Laid pair_within (parts read_pair (drop at text)) (λ ps. levels ≡ sets levels₀ from (map (level_in group) ps))
  column_end h = step (word_at text next (closing ∷ [])) refl
    where
      step :
          (b : Bool) → word_at text next (closing ∷ []) ≡ b →
          Laid pair_within (parts read_pair (drop at text)) (λ ps. levels ≡ sets levels₀ from (map (level_in group) ps))
      step true e = (listing_end pair_bytes read_pair pair_inverse came.listing e).laid
      step false e = (listing_unclosed pair_bytes read_pair pair_inverse came.listing h e).laid

-- ── Group by group ──

-- What was written in two steps.
laid_both :
    (P Q R : List PairText → Type 0) (reading : Reading (List PairText)) → ((ps : List PairText) → P ps → Q ps → R ps) → Laid pair_within reading P →
    Laid pair_within reading Q → Laid pair_within reading R
laid_both P Q R (got ps rest) both p q = λ t. both ps (p t) (q t)
laid_both P Q R refused both p q = tt

laid_always : (P : List PairText → Type 0) (reading : Reading (List PairText)) → ((ps : List PairText) → P ps) → Laid pair_within reading P
laid_always P (got ps rest) p = λ t. p ps
laid_always P refused p = tt

-- The columns below a group stand in the table where there are as many pairs as atoms, if the first stood there before.
abbrev pub columns_laid : ℕ → ℕ → List ℕ → List ℕ → List PairText → Type 0
columns_laid groups size levels₀ levels =
    λ ps. length ps ≡ size → (before : List ℕ) → levels₀ ≡ sets before 0 (level_columns 1 ps) → levels ≡ sets before 0 (level_columns groups ps)

-- The next column comes behind as many as there are groups before it.
columns_long : (groups : ℕ) (ps : List PairText) → length (level_columns groups ps) ≡ groups * length ps
unfolding level_columns join_below
columns_long zero ps = omega arith
columns_long (suc groups) ps =
    rw (length-append (level_columns groups ps) (map (level_in groups) ps), length-map ps (level_in groups), columns_long groups ps)
    (omega (arith, suc-mul groups (length ps)))

columns_more : (group : ℕ) (ps : List PairText) → level_columns (group + 1) ps ≡ level_columns group ps ++ map (level_in group) ps
unfolding level_columns join_below
columns_more group ps = rw add-one

pub columns_start : (reading : Reading (List PairText)) (size : ℕ) (levels : List ℕ) → Laid pair_within reading (columns_laid 1 size levels levels)
columns_start reading size levels = laid_always (columns_laid 1 size levels levels) reading (λ ps n before e. e)

pub columns_turn :
    (reading : Reading (List PairText)) (size : ℕ) (levels₀ levels levels₁ : List ℕ) (group : ℕ) → Laid pair_within reading (columns_laid group size levels₀ levels) →
    Laid pair_within reading (λ ps. levels₁ ≡ sets levels (group * size) (map (level_in group) ps)) →
    Laid pair_within reading (columns_laid (group + 1) size levels₀ levels₁)
columns_turn reading size levels₀ levels levels₁ group before_it column =
    laid_both (columns_laid group size levels₀ levels) (λ ps. levels₁ ≡ sets levels (group * size) (map (level_in group) ps)) (columns_laid (group + 1) size levels₀ levels₁)
    reading
    (λ ps p q n before e.
    let behind : group * size ≡ 0 + length (level_columns group ps) = omega (arith, columns_long group ps, ap (λ (k : ℕ). group * k) n) in
    rw (q, p n before e, columns_more group ps) (sets_behind before (level_columns group ps) (map (level_in group) ps) 0 (group * size) behind))
    before_it column

-- Both passes together.
pub pairs_laid :
    (values₀ levels₀ values levels levels₁ : List ℕ) (groups size : ℕ) (reading : Reading (List PairText)) →
    Laid pair_within reading (values_laid values₀ levels₀ values levels) → Laid pair_within reading (columns_laid groups size levels levels₁) →
    Laid pair_within reading
    (λ ps. (values ≡ sets values₀ 0 (map (λ (p : PairText). p.value) ps)) × (length ps ≡ size → levels₁ ≡ sets levels₀ 0 (level_columns groups ps)))
unfolding level_columns join_below
pairs_laid values₀ levels₀ values levels levels₁ groups size reading valued columns =
    laid_both (values_laid values₀ levels₀ values levels) (columns_laid groups size levels levels₁)
    (λ ps. (values ≡ sets values₀ 0 (map (λ (p : PairText). p.value) ps)) × (length ps ≡ size → levels₁ ≡ sets levels₀ 0 (level_columns groups ps))) reading
    (λ ps p q. (p.0, λ n. q n levels₀ p.1)) valued columns
