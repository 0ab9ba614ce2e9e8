-- A worked load line, that of examples/shift.book: each of its four terms is a half.
-- Assumes nothing.
use Prim.Native.Nat.{ℕ, ◌*◌}
use mathlib.Core.Path.{◌≡◌, refl}
use mathlib.Core.Bool.{true, false}
use mathlib.Core.List.{List, [], ◌∷◌}
use lib.IntN.{pos}
use Rattle.tables.specs.Loads.{Term, Load}
use Rattle.satisfaction.specs.Satisfied.{load_sum, load_holds}
use Rattle.satisfaction.proofs.Computes.{computes}

-- Minutes of the literal of an atom.
abbrev minutes_of : ℕ → ℕ → Term
minutes_of minutes atom = record { minutes = pos minutes; literal = 2 * atom }

abbrev shift : List Term
shift = minutes_of 39 1 ∷ minutes_of 261 2 ∷ minutes_of 129 3 ∷ minutes_of 45 4 ∷ []

-- All five atoms are true.
abbrev model : List ℕ
model = 1 ∷ 1 ∷ 1 ∷ 1 ∷ 1 ∷ []

-- The shift with a bound on its tenths.
abbrev up_to : ℕ → Load
up_to high = record { low = pos 0; high = pos high; terms = shift }

-- The even tenths 6, 44, 22 and 8 make 80; halves away from zero make 81, toward zero 77, the odd tenths 78, and the minutes added first 79.
pub worked_shift : (load_sum model shift ≡ pos 80) × (load_holds model (up_to 80) ≡ true) × (load_holds model (up_to 79) ≡ false)
unfolding computes
worked_shift = (refl, refl, refl)
