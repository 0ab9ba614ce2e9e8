-- What minutes count is the nearest whole number of tenths, of two equally near the even one, and no other number meets this.
-- Assumes nothing.
use Prim.Native.Nat.{ℕ, zero, suc, ◌+◌, ◌-◌, ◌*◌, ◌/◌, ◌%◌, ◌≤◌}
use mathlib.Core.Path.{◌≡◌, refl, sym, ap, ◌∙◌}
use mathlib.Core.Bool.{Bool, true, false, cond}
use mathlib.Core.List.{[], ◌∷◌, map}
use native.Mathlib.Omega.{arith}
use lib.IntN.{ℤ, pos, negsuc, neg_ℤ, nat_abs, sub_ℕ, ◌-ℤ◌, ◌*ℤ◌, neg_ℤ-neg_ℤ, neg_ℤ-+ℤ}
use lib.Dec.{eqb, ltb}
use borrow.Author.Tests.{eqb-true, eqb-false, ltb-true, ltb-false}
use Rattle.satisfaction.specs.Tenths.{round_tenth, tenths, distance, NearestTenth}
use Rattle.tables.proofs.Signs.{magnitude_negated}

-- ── Distances of natural numbers ──

gap_sub : (a b : ℕ) → nat_abs (sub_ℕ a b) ≡ (a - b) + (b - a)
gap_sub a b = go (ltb a b) refl
  where
    go : (t : Bool) → ltb a b ≡ t → nat_abs (cond t (negsuc (b - suc a)) (pos (a - b))) ≡ (a - b) + (b - a)
    go true e = omega (arith, ltb-true a b e)
    go false e = omega (arith, ltb-false a b e)

gap : (a b : ℕ) → nat_abs (pos a -ℤ pos b) ≡ (a - b) + (b - a)
gap a zero = omega arith
gap a (suc b) = gap_sub a (suc b)

distance_over : (m k : ℕ) → distance (pos m) (pos k) ≡ (6 * k - m) + (m - 6 * k)
unfolding distance
distance_over m k = gap (6 * k) m

distance_under : (m k : ℕ) → distance (pos m) (negsuc k) ≡ 6 * suc k + m
unfolding distance
distance_under m k = rw (← neg_ℤ-+ℤ (pos (6 * suc k)) (pos m), magnitude_negated)

-- ── The other sign ──

times_negated : (z : ℤ) → pos 6 *ℤ neg_ℤ z ≡ neg_ℤ (pos 6 *ℤ z)
times_negated (pos zero) = refl
times_negated (pos (suc n)) = refl
times_negated (negsuc n) = sym (neg_ℤ-neg_ℤ (pos (6 * suc n)))

distance_negated : (m t : ℤ) → distance (neg_ℤ m) (neg_ℤ t) ≡ distance m t
unfolding distance
distance_negated m t = rw (times_negated t, ← neg_ℤ-+ℤ (pos 6 *ℤ t) (neg_ℤ m), magnitude_negated)

mirrored : (m other : ℤ) → distance (neg_ℤ m) other ≡ distance m (neg_ℤ other)
mirrored m other = ap (distance (neg_ℤ m)) (sym (neg_ℤ-neg_ℤ other)) ∙ distance_negated m (neg_ℤ other)

pub tenths_negated : (z : ℤ) → tenths (neg_ℤ z) ≡ neg_ℤ (tenths z)
unfolding tenths round_tenth
tenths_negated (pos zero) = refl
tenths_negated (pos (suc n)) = refl
tenths_negated (negsuc n) = sym (neg_ℤ-neg_ℤ (pos (round_tenth (suc n))))

-- ── The nearest ──

made_even : (n : ℕ) → (n + n % 2) % 2 ≡ 0
made_even n = omega arith

module _ (m : ℕ) where
  nearest_over : (other : ℤ) → distance (pos m) (tenths (pos m)) ≤ distance (pos m) other
  unfolding tenths round_tenth
  nearest_over (pos k) = omega (arith, distance_over m (round_tenth m), distance_over m k)
  nearest_over (negsuc k) = omega (arith, distance_over m (round_tenth m), distance_under m k)

  -- Another that is as near lies on the other side, and the minutes lie halfway between the two.
  other_side :
      (k : ℕ) → distance (pos m) (pos k) ≡ distance (pos m) (pos (round_tenth m)) → (k ≡ round_tenth m → ⊥) → m ≡ 3 * (k + round_tenth m)
  other_side k e another = omega (arith, distance_over m (round_tenth m), distance_over m k)

  half_over : (other : ℤ) → distance (pos m) other ≡ distance (pos m) (tenths (pos m)) → (other ≡ tenths (pos m) → ⊥) → m % 6 ≡ 3
  unfolding tenths round_tenth
  half_over (pos k) e another =
      let apart : k ≡ round_tenth m → ⊥ = λ same. another (ap pos same) in
      omega (arith, other_side k e apart)
  half_over (negsuc k) e another = omega (arith, distance_over m (round_tenth m), distance_under m k)

  half_even : m % 6 ≡ 3 → round_tenth m % 2 ≡ 0
  unfolding round_tenth
  half_even h =
      let count : round_tenth m ≡ m / 6 + m / 6 % 2 = omega arith in
      ap (λ n. n % 2) count ∙ made_even (m / 6)

meets_over : (m : ℕ) → NearestTenth (pos m) (tenths (pos m))
unfolding tenths
meets_over m = record { nearest = nearest_over m; even = λ other e another. half_even m (half_over m other e another) }

mirror : (m t : ℤ) → NearestTenth m t → NearestTenth (neg_ℤ m) (neg_ℤ t)
mirror m t n =
    record {
      nearest = λ other. rw (mirrored m other, distance_negated m t) (n.nearest (neg_ℤ other));
      even = λ other e another.
          rw (magnitude_negated t)
          (n.even (neg_ℤ other) (sym (mirrored m other) ∙ e ∙ distance_negated m t) (λ same. another (sym (neg_ℤ-neg_ℤ other) ∙ ap neg_ℤ same)));
    }

-- The count meets `NearestTenth`, for minutes of any size.
pub tenths_nearest : (minutes : ℤ) → NearestTenth minutes (tenths minutes)
tenths_nearest (pos m) = meets_over m
tenths_nearest (negsuc m) = rw (tenths_negated (pos (suc m))) (mirror (pos (suc m)) (tenths (pos (suc m))) (meets_over (suc m)))

-- ── The only one ──

module _ (m k : ℕ) (n : NearestTenth (pos m) (pos k)) where
  as_near : distance (pos m) (pos k) ≡ distance (pos m) (pos (round_tenth m))
  unfolding tenths
  as_near = omega (arith, n.nearest (pos (round_tenth m)), nearest_over m (pos k))

  -- Of two neighbours only one is even.
  no_other_lem : (k ≡ round_tenth m → ⊥) → ⊥
  unfolding tenths
  no_other_lem apart =
      let half = half_over m (pos k) as_near (λ same. apart (ap nat_abs same)) in
      let even = n.even (pos (round_tenth m)) (sym as_near) (λ same. apart (sym (ap nat_abs same))) in
      let neighbours : k + round_tenth m ≡ 2 * (m / 6) + 1 = omega (arith, other_side m k as_near apart, half) in
      omega (arith, neighbours, even, half_even m half)

only_over : (m : ℕ) (tenth : ℤ) → NearestTenth (pos m) tenth → tenth ≡ tenths (pos m)
unfolding tenths
only_over m (pos k) n = go (eqb k (round_tenth m)) refl
  where
    go : (t : Bool) → eqb k (round_tenth m) ≡ t → pos k ≡ pos (round_tenth m)
    go true e = ap pos (eqb-true _ _ e)
    go false e = absurd (no_other_lem m k n (eqb-false k (round_tenth m) e))
only_over m (negsuc k) n = absurd (omega (arith, n.nearest (pos 0), distance_over m 0, distance_under m k))

-- No other number meets `NearestTenth`.
pub nearest_only : (minutes tenth : ℤ) → NearestTenth minutes tenth → tenth ≡ tenths minutes
nearest_only (pos m) tenth n = only_over m tenth n
nearest_only (negsuc m) tenth n =
    sym (neg_ℤ-neg_ℤ tenth) ∙ ap neg_ℤ (only_over (suc m) (neg_ℤ tenth) (mirror (negsuc m) tenth n)) ∙ sym (tenths_negated (pos (suc m)))

-- ── Ties ──

-- Another tenth is as near as the count only where the minutes are 3 more than whole tenths, so that no tie rule touches other minutes.
pub ties_are_halves :
    (minutes other : ℤ) → distance minutes other ≡ distance minutes (tenths minutes) → (other ≡ tenths minutes → ⊥) → nat_abs minutes % 6 ≡ 3
ties_are_halves (pos m) other e another = half_over m other e another
ties_are_halves (negsuc m) other e another =
    let magnitude = pos (suc m) in
    half_over (suc m) (neg_ℤ other)
    (sym (mirrored magnitude other) ∙ e ∙ ap (distance (negsuc m)) (tenths_negated magnitude) ∙ distance_negated magnitude (tenths magnitude))
    (λ same. another (sym (neg_ℤ-neg_ℤ other) ∙ ap neg_ℤ same ∙ sym (tenths_negated magnitude)))

-- ── Examples ──

-- Halves: 3 minutes count 0, 9 count 2, 15 count 2, -3 count 0, -9 count -2. Others: 2 and -2 count 0, 4 counts 1, -4 counts -1, 60 counts 10.
pub worked_tenths :
    (map tenths (pos 3 ∷ pos 9 ∷ pos 15 ∷ negsuc 2 ∷ negsuc 8 ∷ []) ≡ pos 0 ∷ pos 2 ∷ pos 2 ∷ pos 0 ∷ negsuc 1 ∷ [])
    × (map tenths (pos 2 ∷ negsuc 1 ∷ pos 4 ∷ negsuc 3 ∷ pos 60 ∷ []) ≡ pos 0 ∷ pos 0 ∷ pos 1 ∷ negsuc 0 ∷ pos 10 ∷ [])
unfolding tenths round_tenth
worked_tenths = (refl, refl)
