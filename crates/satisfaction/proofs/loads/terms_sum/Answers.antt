-- `satisfaction::loads::terms_sum` meets its contract: the sum so far and the terms from `place` on come to the sum of the row.
use Prim.Native.Nat.{ℕ, ◌≤◌}
use mathlib.Core.List.{List}
use native.Mathlib.Omega.{arith}
use lib.IntN.{ℤ}
use mir.Syntax.{w32}
use mir.Val.{to_z, of_z}
use mir.Facts.{to_z-of_z}
use Rattle.tables.specs.Limits.{max_terms}
use Rattle.tables.proofs.Signs.{magnitude_fits}
use Rattle.satisfaction.proofs.LoadLaws.{counted_back, Summed, sum_turn, sum_end}
use Rattle.satisfaction.proofs.loads.terms_sum.Goals as goal

-- A sum of few terms is read back from its bits as it is.
summed_back :
    {values literals : List ℕ} {minutes : List ℤ} {size i : ℕ} {sum : ℤ} → size ≤ max_terms →
    Summed values literals minutes size i sum → Summed values literals minutes size i (to_z w32 (of_z w32 sum))
summed_back {sum} few s = rw (to_z-of_z (magnitude_fits sum (omega (arith, s.small, s.low)))) s

pub loop-place-preserved : goal.loop-place-preserved
loop-place-preserved c = summed_back c.requires.few (sum_turn (omega arith) (counted_back c.term_count-sum.ensures) c.loop-place.invariant)

pub returns : goal.returns
returns c = sum_end (omega arith) c.loop-place.invariant
