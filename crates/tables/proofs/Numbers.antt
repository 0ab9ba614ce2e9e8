-- A verdict is told by its number and its position.
-- Assumes nothing.
use Prim.Native.Nat.{ℕ, ◌<◌}
use mathlib.Core.Path.{◌≡◌, refl, ap₂}
use mathlib.Core.Bool.{◌&&◌}
use native.Mathlib.Omega.{arith}
use lib.Dec.{ltb}
use borrow.Author.Tests.{ltb-true}
use Rattle.wellfounded.proofs.Tests.{first, second}
use Rattle.std.specs.declared.result.Result.TheVariants.{Ok, Err}
use Rattle.tables.specs.declared.Fault.{Fault}
use Rattle.tables.specs.Faults.{Verdict, accepted, refused}
use Rattle.tables.specs.Faults.{fault_number, number_of, position_of}
use Rattle.tables.specs.contracts.Fault.{enum}
use Rattle.tables.proofs.Enums.{every_value_lem, number_tells}

-- A fault's number has one or two digits and is not 0,
pub number_bounds : (f : Fault) → (0 < fault_number f) × (fault_number f < 100)
number_bounds f =
    let within = every_value_lem enum (λ g. ltb 0 (fault_number g) && ltb (fault_number g) 100) refl f in
    (ltb-true _ _ (first (ltb 0 (fault_number f)) _ within), ltb-true _ _ (second (ltb 0 (fault_number f)) _ within))

-- and no two faults share one.
pub number_own : (f g : Fault) → fault_number f ≡ fault_number g → f ≡ g
number_own = number_tells enum fault_number refl

-- The number 0 is "accepted".
pub zero_accepted : (v : Verdict) → number_of v ≡ 0 → v ≡ accepted
zero_accepted (Ok nothing) e = refl
zero_accepted (Err r) e = absurd (omega (arith, (number_bounds r.fault).0))

-- A fault's number and a position are its refusal there.
pub number_refused : (v : Verdict) (f : Fault) (p : ℕ) → number_of v ≡ fault_number f → position_of v ≡ p → v ≡ refused f p
number_refused (Ok nothing) f p n at = absurd (omega (arith, (number_bounds f).0))
number_refused (Err r) f p n at = ap₂ refused (number_own r.fault f n) at

-- No verdict's number has more than two digits.
pub verdict_number : (v : Verdict) → number_of v < 100
verdict_number (Ok nothing) = omega arith
verdict_number (Err r) = (number_bounds r.fault).1
