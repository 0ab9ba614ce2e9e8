-- `tables::searches::lowest` meets its contract: no place before `place` fails.
use Prim.Native.Nat.{ℕ, ◌<◌}
use mathlib.Core.Path.{◌≡◌}
use mathlib.Core.Bool.{Bool}
use Rattle.tables.proofs.Faults.{Searched}
use Rattle.tables.proofs.searches.lowest.Given as goal

abbrev pub invariant-loop-place : goal.invariant-loop-place
invariant-loop-place g l = (bad : ℕ → Bool) → ((place : ℕ) (told : Bool) → place < l.places → goal.F-post g l.fails place told → told ≡ bad place) → Searched bad l.places l.place
