-- `satisfaction::loads::tenths_of` meets its contract: the tenths of a number are those of its magnitude, with its sign.
use mathlib.Core.Path.{◌≡◌, refl, ap, ◌∙◌}
use Prim.Native.Nat.{◌<◌}
use native.Mathlib.Omega.{arith}
use lib.IntN.{pos, nat_abs}
use mir.Syntax.{w32}
use mir.Val.{to_z}
use mir.Facts.{to_z-of_z, to_z_pos}
use Rattle.satisfaction.specs.Tenths.{round_tenth}
use Rattle.tables.proofs.Signs.{magnitude_fits}
use Rattle.satisfaction.proofs.LoadLaws.{negative_tenths, other_tenths, counted_back, minutes_most, round_small, tenths_small}
use Rattle.satisfaction.proofs.loads.tenths_of.Goals as goal

pub overflow_cast-rounded : goal.overflow_cast-rounded
overflow_cast-rounded c =
    let magnitude_is : c.magnitude.result ≡ nat_abs c.args.minutes =
    c.magnitude.ensures ∙ ap nat_abs (to_z-of_z c.ranges.minutes) in
    let rounded-is : c.round_tenth-rounded.result ≡ round_tenth (nat_abs c.args.minutes) =
    c.round_tenth-rounded.ensures ∙ ap round_tenth (magnitude_is) in
    omega (arith, rounded-is, round_small _ (minutes_most c.ranges.minutes))

pub overflow_sub-result : goal.overflow_sub-result
overflow_sub-result c =
    let magnitude_is : c.magnitude.result ≡ nat_abs c.args.minutes =
    c.magnitude.ensures ∙ ap nat_abs (to_z-of_z c.ranges.minutes) in
    let rounded-is : c.round_tenth-rounded.result ≡ round_tenth (nat_abs c.args.minutes) =
    c.round_tenth-rounded.ensures ∙ ap round_tenth (magnitude_is) in
    let rounded_fits : c.round_tenth-rounded.result < 2147483648 = omega (arith, rounded-is, round_small _ (minutes_most c.ranges.minutes)) in
    let signed_is : to_z w32 c.round_tenth-rounded.result ≡ pos (round_tenth (nat_abs c.args.minutes)) =
    to_z_pos w32 (rounded_fits) ∙ ap pos (rounded-is) in
    let f = c.ranges.minutes in
    rw (signed_is, ← negative_tenths f c.if-minutes-lt0.true) (magnitude_fits _ (omega (arith, tenths_small f)))

pub returns-then-minutes-lt0 : goal.returns-then-minutes-lt0
returns-then-minutes-lt0 c =
    let magnitude_is : c.magnitude.result ≡ nat_abs c.args.minutes =
    c.magnitude.ensures ∙ ap nat_abs (to_z-of_z c.ranges.minutes) in
    let rounded-is : c.round_tenth-rounded.result ≡ round_tenth (nat_abs c.args.minutes) =
    c.round_tenth-rounded.ensures ∙ ap round_tenth (magnitude_is) in
    let rounded_fits : c.round_tenth-rounded.result < 2147483648 = omega (arith, rounded-is, round_small _ (minutes_most c.ranges.minutes)) in
    let signed_is : to_z w32 c.round_tenth-rounded.result ≡ pos (round_tenth (nat_abs c.args.minutes)) =
    to_z_pos w32 (rounded_fits) ∙ ap pos (rounded-is) in
    let f = c.ranges.minutes in
    rw (signed_is, ← negative_tenths f c.if-minutes-lt0.true) (counted_back (record { is = refl; small = tenths_small f }))

pub returns-else-minutes-lt0 : goal.returns-else-minutes-lt0
returns-else-minutes-lt0 c =
    let magnitude_is : c.magnitude.result ≡ nat_abs c.args.minutes =
    c.magnitude.ensures ∙ ap nat_abs (to_z-of_z c.ranges.minutes) in
    let rounded-is : c.round_tenth-rounded.result ≡ round_tenth (nat_abs c.args.minutes) =
    c.round_tenth-rounded.ensures ∙ ap round_tenth (magnitude_is) in
    let rounded_fits : c.round_tenth-rounded.result < 2147483648 = omega (arith, rounded-is, round_small _ (minutes_most c.ranges.minutes)) in
    let signed_is : to_z w32 c.round_tenth-rounded.result ≡ pos (round_tenth (nat_abs c.args.minutes)) =
    to_z_pos w32 (rounded_fits) ∙ ap pos (rounded-is) in
    let f = c.ranges.minutes in
    rw (signed_is, ← other_tenths f c.if-minutes-lt0.false) (record { is = refl; small = tenths_small f })
