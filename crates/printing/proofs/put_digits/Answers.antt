-- `printing::put_digits` meets its contract: the digits still to be put make of the buffer what all make of the buffer before.
use Prim.Native.Nat.{◌+◌, ◌-◌}
use mathlib.Core.Path.{◌≡◌, refl}
use native.Mathlib.Omega.{arith}
use Rattle.printing.proofs.DecimalLaws.{length_some, digits_many, digits_one, writing_start, writing_turn, writing_end}
use Rattle.printing.proofs.put_digits.Goals as goal
use Rattle.printing.proofs.put_digits.Goals.{After-loop-place}

pub loop-place-init : goal.loop-place-init
loop-place-init g c =
    let some = length_some c.args.number in
    (omega (arith, c.requires.0), writing_start _ _ _ _ (omega (arith, c.requires.0, c.requires.1)) (omega (arith, c.requires.0)))

pub loop-place-preserved : goal.loop-place-preserved
loop-place-preserved g c =
    let so = c.loop-place.invariant.1 in
    let before : c.args.at + (c.loop-place.place - 1) - 1 ≡ c.args.at + (c.loop-place.place - 1 - 1) = omega arith in
    (omega arith, rw before at (writing_turn (digits_many _ (omega (arith, so.here))) refl so))

pub overflow_cast-buffer-2 : goal.overflow_cast-buffer-2
overflow_cast-buffer-2 g c = omega (arith, digits_one c.loop-place.rest (omega (arith, c.loop-place.invariant.1.here)))

pub overflow_add-buffer-2 : goal.overflow_add-buffer-2
overflow_add-buffer-2 g c = omega (arith, digits_one c.loop-place.rest (omega (arith, c.loop-place.invariant.1.here)))

pub returns : goal.returns
returns g c =
    let so = c.loop-place.invariant.1 in
    let here : c.args.at + (c.loop-place.place - 1) ≡ c.args.at = omega arith in
    record { answered = omega (arith, c.requires.0); stored = writing_end (digits_one _ (omega (arith, so.here))) (rw here) so }
