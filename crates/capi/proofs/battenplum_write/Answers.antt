-- `capi::battenplum_write` meets its contract: the length of the text, or the packed refusal, and both are small.
use native.Mathlib.Omega.{arith}
use Rattle.capi.proofs.PackLaws.{length_small, length_packed, refusal_small, refusal_packed}
use Rattle.capi.proofs.battenplum_write.Goals as goal

pub overflow_mul-result : goal.overflow_mul-result
overflow_mul-result c = omega (arith, length_small _ _ _ _ c.write-answer.ensures _ c.in-Ok.is)

pub returns-in-Ok : goal.returns-in-Ok
returns-in-Ok c = length_packed _ _ _ _ c.write-answer.ensures _ c.in-Ok.is

pub pack-requires : goal.pack-requires
pack-requires c = refusal_small _ _ _ _ c.write-answer.ensures _ c.in-Err.is

pub returns-in-Err : goal.returns-in-Err
returns-in-Err c = refusal_packed _ _ _ _ c.write-answer.ensures _ _ c.in-Err.is c.pack.ensures
