-- Minutes counted in whole tenths of an hour.
use Rattle.std.specs.Prelude.{ℕ, suc, ◌+◌, ◌/◌, ◌%◌, ◌≤◌, ◌≡◌, ℤ, pos, negsuc, neg_ℤ, nat_abs, ◌-ℤ◌, ◌*ℤ◌}

-- The nearest whole tenth, of two equally near the even one: 2 added counts a half down, 3 up, and 3 is added where the tenths below are odd.
unfoldable pub round_tenth : ℕ → ℕ
round_tenth minutes = (minutes + 2 + minutes / 6 % 2) / 6

-- A signed number counts what its magnitude does, with its sign.
unfoldable pub tenths : ℤ → ℤ
tenths (pos m) = pos (round_tenth m)
tenths (negsuc m) = neg_ℤ (pos (round_tenth (suc m)))

-- How far a number of tenths is from the minutes, in minutes.
unfoldable pub distance : ℤ → ℤ → ℕ
distance minutes tenth = nat_abs (pos 6 *ℤ tenth -ℤ minutes)

-- What the count is to be: no whole tenth is nearer, and if another is as near, this one is even.
pub record NearestTenth (minutes tenth : ℤ) : Type 0 where
  pub nearest : (other : ℤ) → distance minutes tenth ≤ distance minutes other
  pub even : (other : ℤ) → distance minutes other ≡ distance minutes tenth → (other ≡ tenth → ⊥) → nat_abs tenth % 2 ≡ 0
