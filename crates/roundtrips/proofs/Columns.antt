-- Levels that stand group by group make pairs, and the pairs give them back; and the other way round.
-- Assumes nothing.
use Prim.Native.Nat.{ℕ, zero, suc, ◌+◌, ◌*◌, ◌≤◌, ◌<◌}
use mathlib.Core.Path.{◌≡◌, refl, sym, ap₂, ◌∙◌}
use mathlib.Core.Logic.{⊎_elim}
use mathlib.Core.Bool.{true}
use mathlib.Core.List.{List, [], ◌++◌, map}
use native.Mathlib.Nat.{zero-mul, suc-mul, mul_comm, not-suc-le-zero}
use native.Mathlib.Omega.{arith}
use lib.ListN.{length, get_or, take, drop, length-drop, get_or-append, get_or-map}
use lib.Seq.{ext_get_or, get_or-append-add, get_or-take, get_or-drop, take-add, length-take-le}
use borrow.Author.Tests.{eqb-true}
use Rattle.wellfounded.specs.Lists.{all, tabulate, join_below}
use Rattle.wellfounded.proofs.Lists.{length_tabulate, get_d_tabulate, tabulate_same, le_or_lt}
use Rattle.format.specs.Forms.{PairText}
use Rattle.items.specs.Items.{level_in, level_columns}
use Rattle.judging.specs.Judging.{levels_for}
use Rattle.forms.proofs.EntryLaws.{columns_long}
use Rattle.writing.specs.BookForms.{claimed_pair, pairs_of}
use Rattle.writing.proofs.PartLaws.{map_tabulate, group_inside}
use Rattle.roundtrips.proofs.ListTests.{all_entry}

-- The entries of a list, and those of a part of it.
pub tabulate_entries : (n : ℕ) (xs : List ℕ) → length xs ≡ n → tabulate n (λ k. get_or xs k 0) ≡ xs
tabulate_entries n xs e =
    ext_get_or 0 (tabulate n (λ k. get_or xs k 0)) xs (length_tabulate n _ ∙ sym e) (λ k l.
    get_d_tabulate n (λ j. get_or xs j 0) k 0 (omega (arith, length_tabulate n (λ j. get_or xs j 0))))

tabulate_part : (n from : ℕ) (xs : List ℕ) → from + n ≤ length xs → tabulate n (λ k. get_or xs (from + k) 0) ≡ take n (drop from xs)
tabulate_part n from xs l =
    let long : length (take n (drop from xs)) ≡ n = length-take-le n (drop from xs) (rw (length-drop from xs) (omega arith)) in
    ext_get_or 0 (tabulate n (λ k. get_or xs (from + k) 0)) (take n (drop from xs)) (length_tabulate n _ ∙ sym long) (λ k h.
    let inside : k < n = omega (arith, length_tabulate n (λ j. get_or xs (from + j) 0)) in
    get_d_tabulate n (λ j. get_or xs (from + j) 0) k 0 inside ∙ sym (get_or-take n (drop from xs) k 0 inside ∙ get_or-drop from xs k 0))

-- ── Levels, pairs, levels ──

module _ (n groups : ℕ) (values levels : List ℕ) (long : length levels ≡ groups * n) where
  column : (group : ℕ) → group < groups → map (level_in group) (pairs_of n groups values levels) ≡ take n (drop (group * n) levels)
  unfolding pairs_of level_in
  column group l =
      map_tabulate (level_in group) n (claimed_pair n groups values levels)
      ∙ tabulate_same n _ (λ a. get_or levels (group * n + a) 0) (λ a h. get_d_tabulate groups (λ g. get_or levels (g * n + a) 0) group 0 l)
      ∙ tabulate_part n (group * n) levels (omega (arith, group_inside n groups group l))

  columns_front : (k : ℕ) → k ≤ groups → level_columns k (pairs_of n groups values levels) ≡ take (k * n) levels
  unfolding level_columns join_below
  columns_front zero l = rw (zero-mul n)
  columns_front (suc k) l =
      ap₂ (λ (xs ys : List ℕ). xs ++ ys) (columns_front k (omega arith)) (column k (omega arith))
      ∙ rw (suc-mul k n) (sym (take-add (k * n) n levels))

  pub levels_again : level_columns groups (pairs_of n groups values levels) ≡ levels
  levels_again = columns_front groups (omega arith) ∙ whole
    where
      whole : take (groups * n) levels ≡ levels
      whole =
          ext_get_or 0 (take (groups * n) levels) levels (length-take-le (groups * n) levels (omega arith) ∙ sym long) (λ k l.
          get_or-take (groups * n) levels k 0 (omega (arith, length-take-le (groups * n) levels (omega arith))))

-- ── Pairs, levels, pairs ──

-- The level of a pair in a group stands in the group's column.
column_at :
    (ps : List PairText) (groups group a : ℕ) → group < groups → a < length ps →
    get_or (level_columns groups ps) (group * length ps + a) 0 ≡ get_or (map (level_in group) ps) a 0
unfolding level_columns join_below
column_at ps zero group a l h = absurd (not-suc-le-zero l)
column_at ps (suc k) group a l h =
    ⊎_elim
    (λ (last : k ≤ group).
    let e : group ≡ k = omega arith in
    let place : k * length ps + a ≡ length (level_columns k ps) + a = rw (columns_long k ps, mul_comm (length ps) k) refl in
    rw (e, place) (get_or-append-add (level_columns k ps) (map (level_in k) ps) a 0))
    (λ (below : group < k).
    let inside : group * length ps + a < length (level_columns k ps) =
    rw (columns_long k ps, mul_comm (length ps) k) (omega (arith, group_inside (length ps) k group below)) in
    get_or-append (level_columns k ps) (map (level_in k) ps) 0 (group * length ps + a) inside ∙ column_at ps k group a below h)
    (le_or_lt k group)

-- What stands beyond the last pair.
abbrev no_pair : PairText
no_pair = record { value = 0; levels = [] }

module _ (groups : ℕ) (ps : List PairText) (levelled : all (levels_for groups) ps ≡ true) where
  pair_again :
      (a : ℕ) → a < length ps →
      claimed_pair (length ps) groups (map (λ (p : PairText). p.value) ps) (level_columns groups ps) a ≡ get_or ps a no_pair
  unfolding levels_for level_in
  pair_again a l =
      ap₂ (λ (value : ℕ) (ks : List ℕ). record { value = value; levels = ks }) (get_or-map (λ (p : PairText). p.value) ps a no_pair)
      (tabulate_same groups _ (λ group. get_or (get_or ps a no_pair).levels group 0) (λ group h.
      column_at ps groups group a h l ∙ get_or-map (level_in group) ps a no_pair)
      ∙ tabulate_entries groups (get_or ps a no_pair).levels (eqb-true _ groups (all_entry (levels_for groups) no_pair ps levelled a l)))

  pub pairs_again : pairs_of (length ps) groups (map (λ (p : PairText). p.value) ps) (level_columns groups ps) ≡ ps
  unfolding pairs_of
  pairs_again =
      let pair = claimed_pair (length ps) groups (map (λ (p : PairText). p.value) ps) (level_columns groups ps) in
      ext_get_or no_pair (tabulate (length ps) pair) ps (length_tabulate (length ps) pair) (λ a h.
      let l : a < length ps = omega (arith, length_tabulate (length ps) pair) in
      get_d_tabulate (length ps) pair a no_pair l ∙ pair_again a l)
