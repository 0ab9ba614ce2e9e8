-- Laws of claim pairs: the loop over a pair's levels, and the pair read part by part.
-- Assumes nothing.
use Prim.Native.Nat.{ℕ, ◌+◌, ◌-◌, ◌≤◌, ◌<◌}
use mathlib.Core.Path.{◌≡◌, refl, sym, ap, ◌∙◌}
use mathlib.Core.Logic.{⊎_elim}
use mathlib.Core.Bool.{Bool, true, false, cond, ◌&&◌}
use mathlib.Core.List.{List, [], ◌∷◌, ◌++◌}
use native.Mathlib.Omega.{arith}
use lib.Dec.{eqb, leb}
use lib.ListN.{length, get_or, length-append, get_or-append, get_or-eq_default}
use lib.Seq.{get_or-append_seam}
use borrow.Author.Tests.{eqb-true, eqb-false}
use Rattle.wellfounded.specs.Lists.{all}
use Rattle.wellfounded.proofs.Lists.{le_or_lt}
use Rattle.tables.specs.Limits.{max_level}
use Rattle.format.specs.Forms.{decimal, opening, space, closing}
use Rattle.format.specs.Parse.{and_then, read_number, parts, read_pair}
use Rattle.format.specs.Words.{word_at}
use Rattle.numerals.specs.internal.Offsets.{capped, answered, read_at, number_at}
use Rattle.numerals.proofs.CappedLaws.{capped_small, capped_within}
use Rattle.format.proofs.Pieces.{number_inverse}
use Rattle.items.specs.internal.Places.{levels_of, levels_at, pair_of, pair_at}
use Rattle.items.specs.declared.pairs.Levels.{Levels}
use Rattle.std.specs.Prelude.{None, Some}
use Rattle.numerals.proofs.OffsetLaws.{read_some, read_none}
use Rattle.items.proofs.ItemLaws.{GotAt, number_got, byte_got, byte_none}
use Rattle.items.proofs.PartLaws.{Came, all_snoc, came_start, came_turn, came_refused, came_unclosed, came_end}
use Rattle.items.proofs.ItemChains.{offset_left}

-- ── Levels ──

-- One more level: it is that of the group that is numbered as many as there were.
level_snoc : (ks : List ℕ) (k group : ℕ) → get_or (ks ++ (k ∷ [])) group 0 ≡ cond (eqb (length ks) group) k (get_or ks group 0)
level_snoc ks k group = step (eqb (length ks) group) refl
  where
    step : (b : Bool) → eqb (length ks) group ≡ b → get_or (ks ++ (k ∷ [])) group 0 ≡ cond b k (get_or ks group 0)
    step true e = rw (sym (eqb-true (length ks) group e)) (get_or-append_seam ks k [] 0)
    step false e =
        let other = eqb-false (length ks) group e in
        ⊎_elim
        (λ (none : length ks ≤ group).
        let beyond : length (ks ++ (k ∷ [])) ≤ group = simp length-append (omega arith) in
        get_or-eq_default (ks ++ (k ∷ [])) 0 beyond ∙ sym (get_or-eq_default ks 0 none))
        (λ some. get_or-append ks (k ∷ []) 0 group some) (le_or_lt (length ks) group)

-- The loop has come to `next`: of the levels read so far it knows how many there are, whether all are within their limit, and that of the group
-- that is wanted.
pub record LevelsCame (text : List ℕ) (at wanted next count : ℕ) (within : Bool) (found : ℕ) : Type 0 where
  pub ks : List ℕ
  pub came : Came read_number text at next ks
  pub counted : count ≡ length ks
  pub tested : within ≡ all (λ k. leb k max_level) ks
  pub picked : found ≡ capped (get_or ks wanted 0)

pub levels_start : {text : List ℕ} {at wanted : ℕ} → at ≤ length text → LevelsCame text at wanted at 0 true 0
unfolding all
levels_start l = record { ks = []; came = came_start l; counted = refl; tested = refl; picked = sym (capped_small 0 (omega arith)) }

module _ {text : List ℕ} {at wanted next count : ℕ} {within : Bool} {found : ℕ} (levels : LevelsCame text at wanted next count within found) where
  pub levels_inside : (count ≤ next) × (next ≤ length text)
  levels_inside = (omega (arith, levels.counted, levels.came.counted), levels.came.inside)

  module _ (spaced : word_at text next (space ∷ []) ≡ true) where
    pub levels_refused : number_at text (next + 1) ≡ None → None ≡ levels_at text at wanted
    unfolding read_at answered
    levels_refused e = rw (came_refused decimal read_number number_inverse levels.came spaced (read_none capped read_number text (next + 1) e))

    module _ {level after : ℕ} (read : number_at text (next + 1) ≡ Some (level, after)) where
      level_got : (n : ℕ) × (level ≡ capped n) × GotAt read_number text (next + 1) after n
      level_got = number_got (omega (arith, (byte_got text next space spaced).1)) read

      pub levels_on : length text - after < length text - next
      levels_on = let g = level_got.2 in omega (arith, g.on, g.inside)

      pub levels_turn :
          {chosen : ℕ} → chosen ≡ cond (eqb count wanted) level found →
          LevelsCame text at wanted after (count + 1) (within && leb level max_level) chosen
      levels_turn {chosen} c = let g = level_got in more g.0 g.1 g.2
        where
          ks : List ℕ
          ks = levels.ks

          either : (b : Bool) (n m : ℕ) → level ≡ capped n → found ≡ capped m → cond b level found ≡ capped (cond b n m)
          either true n m e f = e
          either false n m e f = f

          more : (n : ℕ) → level ≡ capped n → GotAt read_number text (next + 1) after n → LevelsCame text at wanted after (count + 1) (within && leb level max_level) chosen
          more n is g =
              record {
                ks = ks ++ (n ∷ []);
                came = came_turn decimal read_number number_inverse levels.came spaced g;
                counted = omega (arith, levels.counted, length-append ks (n ∷ []));
                tested = rw (all_snoc (λ k. leb k max_level) ks n, ← levels.tested, is, capped_within n max_level (omega arith));
                picked = rw (level_snoc ks n wanted, c, ← levels.counted) (either (eqb count wanted) n (get_or ks wanted 0) is levels.picked);
              }

  module _ (unspaced : word_at text next (space ∷ []) ≡ false) where
    pub levels_unclosed : word_at text next (closing ∷ []) ≡ false → None ≡ levels_at text at wanted
    unfolding read_at answered
    levels_unclosed c = rw (came_unclosed decimal read_number number_inverse levels.came unspaced c)

  pub levels_end :
      word_at text next (closing ∷ []) ≡ true →
      Some (record { level = found; count = count; within = within }, next + 1) ≡ levels_at text at wanted
  unfolding read_at answered levels_of
  levels_end c =
      let l = (byte_got text next closing c).1 in
      rw (
        came_end decimal read_number number_inverse levels.came c,
        offset_left text (next + 1) (omega arith),
        ← levels.counted,
        ← levels.tested,
        ← levels.picked,
      )

-- ── A pair `(V K ..)` ──

both_parts : {levels many : Levels} {next end : ℕ} → levels ≡ many → next ≡ end → ◌≡◌ {A = Levels × ℕ} (levels, next) (many, end)
both_parts e f = rw (e, f)

module _ (text : List ℕ) (at wanted : ℕ) where
  pub pair_unopened : word_at text at (opening ∷ []) ≡ false → None ≡ pair_at text at wanted
  unfolding read_at answered read_pair and_then
  pair_unopened f = rw (byte_none text at opening f)

  module _ (opened : word_at text at (opening ∷ []) ≡ true) where
    pub pair_valueless : number_at text (at + 1) ≡ None → None ≡ pair_at text at wanted
    unfolding read_at answered read_pair and_then
    pair_valueless e = rw ((byte_got text at opening opened).0, read_none capped read_number text (at + 1) e)

    module _ {value after : ℕ} (valued : number_at text (at + 1) ≡ Some (value, after)) where
      pub valued_got : (n : ℕ) × (value ≡ capped n) × GotAt read_number text (at + 1) after n
      valued_got = number_got (omega (arith, (byte_got text at opening opened).1)) valued

      pub pair_levelless : levels_at text after wanted ≡ None → None ≡ pair_at text at wanted
      unfolding read_at answered read_pair and_then
      pair_levelless e =
          rw ((byte_got text at opening opened).0, valued_got.2.reads, read_none (levels_of wanted) (parts read_number) text after e)

      pub pair_levelled :
          {levels : Levels} {next : ℕ} → levels_at text after wanted ≡ Some (levels, next) →
          Some (record { value = value; levels = levels }, next) ≡ pair_at text at wanted
      unfolding read_at answered read_pair and_then pair_of
      pair_levelled e =
          let a = read_some (levels_of wanted) (parts read_number) text after e in
          ap (λ (p : Levels × ℕ). Some (record { value = value; levels = p.0 }, p.1)) (both_parts a.3 a.4) ∙
          rw ((byte_got text at opening opened).0, valued_got.2.reads, a.2, ← valued_got.1)
