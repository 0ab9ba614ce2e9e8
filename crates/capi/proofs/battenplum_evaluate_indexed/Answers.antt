-- `capi::battenplum_evaluate_indexed` meets its contract: the rounds stand above the packed verdict, and both are small.
use Prim.Native.Nat.{◌≤◌}
use native.Mathlib.Omega.{arith}
use Rattle.tables.specs.Limits.{max_atoms, max_position}
use Rattle.tables.specs.Faults.{position_of}
use Rattle.capi.proofs.PackLaws.{packed_small, followed_small, followed_packed}
use Rattle.capi.proofs.battenplum_evaluate_indexed.Goals as goal

pub overflow_mul-result : goal.overflow_mul-result
overflow_mul-result c =
    let small : (position_of c.evaluate_indexed-followed.result.verdict ≤ max_position) × (c.evaluate_indexed-followed.result.rounds ≤ max_atoms) =
    followed_small _ _ c.evaluate_indexed-followed.ensures in
    omega (arith, (small).1)

pub pack-requires : goal.pack-requires
pack-requires c =
    let small : (position_of c.evaluate_indexed-followed.result.verdict ≤ max_position) × (c.evaluate_indexed-followed.result.rounds ≤ max_atoms) =
    followed_small _ _ c.evaluate_indexed-followed.ensures in
    (small).0

pub overflow_add-result : goal.overflow_add-result
overflow_add-result c =
    let small : (position_of c.evaluate_indexed-followed.result.verdict ≤ max_position) × (c.evaluate_indexed-followed.result.rounds ≤ max_atoms) =
    followed_small _ _ c.evaluate_indexed-followed.ensures in
    omega (arith, (small).1, c.pack.ensures, packed_small c.evaluate_indexed-followed.result.verdict (small).0)

pub returns : goal.returns
returns c = followed_packed _ _ c.evaluate_indexed-followed.ensures _ c.pack.ensures
