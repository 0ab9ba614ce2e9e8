-- Sums over rows, as a loop makes them.
-- Assumes nothing.
use Prim.Native.Nat.{ℕ, ◌+◌, ◌*◌, ◌≤◌, ◌<◌}
use mathlib.Core.Path.{◌≡◌, refl, ap, ◌∙◌}
use native.Mathlib.Omega.{arith}
use Rattle.wellfounded.specs.Lists.{sum_below}
use Rattle.wellfounded.proofs.Sums.{sum_more}
use Rattle.tables.specs.internal.Fields.{Field}

-- The fields of the rows passed are in the total. Each is below the bound, so the total cannot wrap.
pub record Summing (f : ℕ → ℕ) (bound rows row total : ℕ) : Type 0 where
  pub low : row ≤ rows
  pub is : total ≡ sum_below row f
  pub small : total ≤ bound * row

module _ (f : ℕ → ℕ) (bound rows : ℕ) where
  pub summing_start : Summing f bound rows 0 0
  unfolding sum_below
  summing_start = record { low = omega arith; is = refl; small = omega arith }

  pub summing_turn :
      (row total field : ℕ) → row < rows → Field bound (f row) field → Summing f bound rows row total →
      Summing f bound rows (row + 1) (total + field)
  summing_turn row total field l x s =
      record {
        low = omega arith;
        is = omega (arith, sum_more row f, s.is, x.is);
        small = omega (arith, s.small, x.small);
      }

  pub summing_end : (row total : ℕ) → rows ≤ row → Summing f bound rows row total → (total ≡ sum_below rows f) × (total ≤ bound * rows)
  summing_end row total l s =
      let e : row ≡ rows = omega (arith, s.low) in
      (s.is ∙ ap (λ (n : ℕ). sum_below n f) e, rw e at s.small)
