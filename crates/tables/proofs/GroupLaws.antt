-- Laws of the rows of a group, and of how many groups there are.
-- Assumes nothing.
use Prim.Native.Nat.{ℕ, zero, suc, max, ◌+◌, ◌*◌, ◌≤◌, ◌<◌}
use mathlib.Core.Path.{◌≡◌, refl, sym, ap, ◌∙◌}
use mathlib.Core.Logic.{◌⊎◌, inl, inr, ⊎_elim}
use mathlib.Core.Bool.{true, false, cond}
use mathlib.Core.List.{List, [], ◌∷◌, ◌++◌, Memᴰ}
use native.Mathlib.Omega.{arith}
use native.Mathlib.Nat.{eq-or-lt_of_le, le_of_suc-le-suc, max-eq_left, max-eq_right}
use native.Mathlib.Numerals.{add-one}
use lib.Dec.{ltb}
use lib.ListN.{length, take, drop, length-append, length-drop}
use lib.Seq.{take_all, drop-append_seam, drop-append-le, take-append-le}
use borrow.Author.Tests.{ltb-true, ltb-false}
use Rattle.wellfounded.specs.Lists.{highest_below, join_below}
use Rattle.wellfounded.proofs.Tests.{decided}
use Rattle.tables.specs.Rows.{rule_count, rule_group, in_group, group_count, rows_of}
use Rattle.tables.specs.Sound.{group_levels}
use Rattle.tables.specs.internal.Fields.{Field}

-- ── Rows ──

-- What stands in joined lists stands in one of them.
join_member : (n : ℕ) (f : ℕ → List ℕ) {x : ℕ} → Memᴰ x (join_below n f) → (k : ℕ) × (k < n) × Memᴰ x (f k)
unfolding join_below
join_member zero f m = absurd (mathlib.Core.List.Memᴰ.not-nil m)
join_member (suc n) f {x} m =
    ⊎_elim (λ (before : Memᴰ x (join_below n f)). let found = join_member n f before in (found.0, omega (arith, found.1), found.2))
    (λ (here : Memᴰ x (f n)). (n, omega arith, here))
    (mathlib.Core.List.Memᴰ.append_cases (join_below n f) m)

member_join : (n : ℕ) (f : ℕ → List ℕ) (k : ℕ) {x : ℕ} → k < n → Memᴰ x (f k) → Memᴰ x (join_below n f)
unfolding join_below
member_join zero f k l m = absurd (omega arith)
member_join (suc n) f k {x} l m =
    ⊎_elim (λ (e : k ≡ n). mathlib.Core.List.Memᴰ.append_right (join_below n f) (rw e at m)) (λ (b : k < n). mathlib.Core.List.Memᴰ.append_left (f n) (member_join n f k b m))
    (eq-or-lt_of_le (le_of_suc-le-suc l))

-- A group's rows are those that are in it.
pub group_row :
    (rules : List ℕ) (group : ℕ) {row : ℕ} → Memᴰ row (rows_of rules group) → (row < rule_count rules) × (in_group rules group row ≡ true)
unfolding rows_of
group_row rules group {row} m =
    let found = join_member (rule_count rules) (λ k. cond (in_group rules group k) (k ∷ []) []) m in
    by found.0 found.1 found.2 (decided (in_group rules group found.0))
  where
    by :
        (k : ℕ) → k < rule_count rules → Memᴰ row (cond (in_group rules group k) (k ∷ []) []) →
        (in_group rules group k ≡ true) ⊎ (in_group rules group k ≡ false) → (row < rule_count rules) × (in_group rules group row ≡ true)
    by k l here (inl t) = let e = mathlib.Core.List.Memᴰ.eq_of_singleton (rw t at here) in rw e (l, t)
    by k l here (inr f) = absurd (mathlib.Core.List.Memᴰ.not-nil (rw f at here))

pub row_group : (rules : List ℕ) (group row : ℕ) → row < rule_count rules → in_group rules group row ≡ true → Memᴰ row (rows_of rules group)
unfolding rows_of
row_group rules group row l t =
    member_join (rule_count rules) (λ k. cond (in_group rules group k) (k ∷ []) []) row l (rw t (mathlib.Core.List.Memᴰ.head refl))

-- ── How many groups there are ──

-- Every number is at most the highest,
highest_above : (n : ℕ) (f : ℕ → ℕ) (k : ℕ) → k < n → f k ≤ highest_below n f
unfolding highest_below
highest_above zero f k l = absurd (omega arith)
highest_above (suc n) f k l = by (λ b. highest_above n f k b) (decided (ltb (highest_below n f) (f n))) (eq-or-lt_of_le (le_of_suc-le-suc l))
  where
    by :
        (k < n → f k ≤ highest_below n f) → (ltb (highest_below n f) (f n) ≡ true) ⊎ (ltb (highest_below n f) (f n) ≡ false) → (k ≡ n) ⊎ (k < n) →
        f k ≤ cond (ltb (highest_below n f) (f n)) (f n) (highest_below n f)
    by before (inl t) (inl e) = rw (t, e) (omega arith)
    by before (inl t) (inr b) = rw t (omega (arith, ltb-true (highest_below n f) (f n) t, before b))
    by before (inr x) (inl e) = rw (x, e) (ltb-false _ _ x)
    by before (inr x) (inr b) = rw x (before b)

-- and the highest is one of them, or 0.
highest_met : (n : ℕ) (f : ℕ → ℕ) → (highest_below n f ≡ 0) ⊎ ((k : ℕ) × (k < n) × (f k ≡ highest_below n f))
unfolding highest_below
highest_met zero f = inl refl
highest_met (suc n) f = by (decided (ltb (highest_below n f) (f n))) (highest_met n f)
  where
    by :
        (ltb (highest_below n f) (f n) ≡ true) ⊎ (ltb (highest_below n f) (f n) ≡ false) →
        (highest_below n f ≡ 0) ⊎ ((k : ℕ) × (k < n) × (f k ≡ highest_below n f)) →
        let high = cond (ltb (highest_below n f) (f n)) (f n) (highest_below n f) in
        (high ≡ 0) ⊎ ((k : ℕ) × (k < suc n) × (f k ≡ high))
    by (inl t) before = rw t (inr (n, omega arith, refl))
    by (inr x) (inl e) = rw x (inl e)
    by (inr x) (inr found) = rw x (inr (found.0, omega (arith, found.1), found.2))

-- Each row's group is below the number of groups, and the highest group has a row, unless there is but one.
pub group_counted : (rules : List ℕ) (row : ℕ) → row < rule_count rules → rule_group rules row < group_count rules
unfolding group_count
group_counted rules row l = omega (arith, highest_above (rule_count rules) (rule_group rules) row l)

pub highest_group :
    (rules : List ℕ) → (group_count rules ≡ 1) ⊎ ((row : ℕ) × (row < rule_count rules) × (suc (rule_group rules row) ≡ group_count rules))
unfolding group_count
highest_group rules =
    ⊎_elim (λ (none : highest_below (rule_count rules) (rule_group rules) ≡ 0). inl (ap suc none))
    (λ (found : (row : ℕ) × (row < rule_count rules) × (rule_group rules row ≡ highest_below (rule_count rules) (rule_group rules))).
    inr (found.0, found.1, ap suc found.2))
    (highest_met (rule_count rules) (rule_group rules))

-- There is a group 0.
pub some_group : (rules : List ℕ) → 0 < group_count rules
unfolding group_count
some_group rules = omega arith

-- As rows have no number for their group yet, there is no other.
pub one_group : (rules : List ℕ) → group_count rules ≡ 1
unfolding group_count rule_group
one_group rules =
    ⊎_elim (λ (none : highest_below (rule_count rules) (rule_group rules) ≡ 0). ap suc none)
    (λ (found : (row : ℕ) × (row < rule_count rules) × (rule_group rules row ≡ highest_below (rule_count rules) (rule_group rules))). ap suc (sym found.2))
    (highest_met (rule_count rules) (rule_group rules))

-- The higher of two.
higher : (a b : ℕ) → max a b ≡ cond (ltb a b) b a
higher a b = by (decided (ltb a b))
  where
    by : (ltb a b ≡ true) ⊎ (ltb a b ≡ false) → max a b ≡ cond (ltb a b) b a
    by (inl t) = rw t (max-eq_right (omega (arith, ltb-true a b t)))
    by (inr x) = rw x (max-eq_left (ltb-false a b x))

-- The search for the highest group has passed some rows.
pub record Highest (f : ℕ → ℕ) (rows row high : ℕ) : Type 0 where
  pub low : row ≤ rows
  pub is : high ≡ highest_below row f
  pub small : high < 65536

module _ {f : ℕ → ℕ} {rows : ℕ} where
  pub highest_start : Highest f rows 0 0
  unfolding highest_below
  highest_start = record { low = omega arith; is = refl; small = omega arith }

  pub highest_turn :
      {row high field : ℕ} → row < rows → Field 65536 (f row) field → Highest f rows row high → Highest f rows (row + 1) (max high field)
  unfolding highest_below
  highest_turn {row} {high} {field} l x h =
      record {
        low = omega arith;
        is = rw (add-one, ← h.is, ← x.is) (higher high field);
        small = omega (arith, h.small, x.small);
      }

pub highest_end :
    (rules : List ℕ) {rows row high : ℕ} → rows ≡ rule_count rules → rows ≤ row → Highest (rule_group rules) rows row high →
    (high + 1 ≡ group_count rules) × (high + 1 ≤ 65536)
unfolding group_count
highest_end rules {rows} {row} {high} all l h =
    let e : row ≡ rule_count rules = omega (arith, h.low) in
    let is : high ≡ highest_below (rule_count rules) (rule_group rules) = rw e at h.is in
    (omega arith, omega (arith, h.small))

-- ── Levels ──

-- A group's part of the levels lies within them.
pub part_within : (atoms group groups : ℕ) → group < groups → group * atoms + atoms ≤ groups * atoms
part_within atoms group zero l = absurd (omega arith)
part_within atoms group (suc groups) l =
    ⊎_elim (λ (e : group ≡ groups). rw e (omega arith)) (λ (b : group < groups). omega (arith, part_within atoms group groups b))
    (eq-or-lt_of_le (le_of_suc-le-suc l))

-- Levels that are joined group by group have each group's as its part.
module _ (atoms : ℕ) (f : ℕ → List ℕ) where
  pub joined_long : (groups : ℕ) → ((k : ℕ) → k < groups → length (f k) ≡ atoms) → length (join_below groups f) ≡ groups * atoms
  unfolding join_below
  joined_long zero each = omega arith
  joined_long (suc groups) each =
      let before = joined_long groups (λ k l. each k (omega arith)) in
      rw length-append (omega (arith, before, each groups (omega arith)))

  pub joined_part :
      (groups : ℕ) → ((k : ℕ) → k < groups → length (f k) ≡ atoms) → (group : ℕ) → group < groups →
      group_levels atoms (join_below groups f) group ≡ f group
  unfolding join_below group_levels
  joined_part zero each group l = absurd (omega arith)
  joined_part (suc groups) each group l =
      by (λ b. joined_part groups (λ k l. each k (omega arith)) group b) (joined_long groups (λ k l. each k (omega arith)))
      (eq-or-lt_of_le (le_of_suc-le-suc l))
    where
      by :
          (group < groups → take atoms (drop (group * atoms) (join_below groups f)) ≡ f group) → length (join_below groups f) ≡ groups * atoms →
          (group ≡ groups) ⊎ (group < groups) → take atoms (drop (group * atoms) (join_below groups f ++ f groups)) ≡ f group
      by before long (inl e) =
          rw (e, ← long, drop-append_seam (join_below groups f) (f groups))
          (take_all atoms (f groups) (omega (arith, each groups (omega arith))))
      by before long (inr b) =
          let within = part_within atoms group groups b in
          ap (take atoms) (drop-append-le (group * atoms) (join_below groups f) (f groups) (omega arith))
          ∙ take-append-le atoms (drop (group * atoms) (join_below groups f)) (f groups) (rw length-drop (omega arith))
          ∙ before b

-- Levels of one group alone are its part.
pub whole_part : (atoms : ℕ) (levels : List ℕ) → length levels ≡ atoms → group_levels atoms levels 0 ≡ levels
unfolding join_below
whole_part atoms levels long = joined_part atoms (λ group. levels) 1 (λ k l. long) 0 (omega arith)
