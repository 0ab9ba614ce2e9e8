-- A loop that repeats a step until nothing changes, where each step leaves all as it is or lowers a measure.
-- Assumes nothing.
use Prim.Native.Nat.{ℕ, zero, suc, ◌+◌, ◌≤◌, ◌<◌}
use mathlib.Core.Path.{◌≡◌, refl, sym, ap, subst, ◌∙◌}
use mathlib.Core.Logic.{◌⊎◌, inl, inr}
use native.Mathlib.Omega.{arith}
use Rattle.wellfounded.specs.Lists.{iterate}
use Rattle.wellfounded.proofs.Lists.{iterate_fixed}

-- So many further turns as w may still need lead from w to the goal.
pub record Reaches {A : Type 0} (measure : A → ℕ) (f : A → A) (goal w : A) : Type 0 where
  pub fuel : ℕ
  pub enough : measure w ≤ fuel
  pub meets : goal ≡ iterate fuel f w

module _ {A : Type 0} where
  -- The first turn first.
  iterate_shift : (f : A → A) (x : A) (n : ℕ) → iterate (suc n) f x ≡ iterate n f (f x)
  unfolding iterate
  iterate_shift f x zero = refl
  iterate_shift f x (suc n) = ap f (iterate_shift f x n)

  pub reaches_start : (measure : A → ℕ) (f : A → A) (n : ℕ) (w : A) → measure w ≤ n → Reaches measure f (iterate n f w) w
  reaches_start measure f n w h = record { fuel = n; enough = h; meets = refl }

  pub reaches_turn :
      (measure : A → ℕ) (f : A → A) (goal w : A) → (f w ≡ w) ⊎ (measure (f w) < measure w) → Reaches measure f goal w →
      Reaches measure f goal (f w)
  reaches_turn measure f goal w (inl e) r = subst (Reaches measure f goal) (sym e) r
  reaches_turn measure f goal w (inr l) r = step r.fuel r.enough r.meets
    where
      step : (n : ℕ) → measure w ≤ n → goal ≡ iterate n f w → Reaches measure f goal (f w)
      step zero h e = absurd (omega arith)
      step (suc n) h e = record { fuel = n; enough = omega arith; meets = e ∙ iterate_shift f w n }

  pub reaches_done : (measure : A → ℕ) (f : A → A) (goal w : A) → f w ≡ w → Reaches measure f goal w → w ≡ goal
  unfolding iterate
  reaches_done measure f goal w e r =
      sym (r.meets ∙ subst (λ (n : ℕ). iterate n f w ≡ w) (zero_plus r.fuel) (iterate_fixed f w zero e r.fuel))
    where
      zero_plus : (n : ℕ) → zero + n ≡ n
      zero_plus n = omega arith
