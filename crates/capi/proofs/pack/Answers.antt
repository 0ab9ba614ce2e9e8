-- `capi::pack` meets its contract: a verdict's number has two digits at most, so number and position fit 32 bits.
use native.Mathlib.Omega.{arith}
use Rattle.capi.specs.Packing.{packed}
use Rattle.tables.proofs.Numbers.{verdict_number}
use Rattle.capi.proofs.pack.Goals as goal

pub overflow_mul-result : goal.overflow_mul-result
overflow_mul-result c = omega (arith, c.number_of.ensures, verdict_number c.args.verdict)

pub overflow_add-result : goal.overflow_add-result
overflow_add-result c = omega (arith, c.number_of.ensures, verdict_number c.args.verdict, c.position_of.ensures, c.requires)

pub overflow_cast-result : goal.overflow_cast-result
overflow_cast-result c = omega (arith, c.number_of.ensures, verdict_number c.args.verdict, c.position_of.ensures, c.requires)

pub returns : goal.returns
unfolding packed
returns c = rw (c.number_of.ensures, c.position_of.ensures)
