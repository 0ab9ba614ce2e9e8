-- `printing::signed_width` meets its contract: the digits of the magnitude, and one more for a minus.
use native.Mathlib.Omega.{arith}
use Rattle.printing.proofs.SignedLaws.{signed_length, signed_long, magnitude_is}
use Rattle.printing.proofs.signed_width.Goals as goal

pub returns : goal.returns
returns c = let fits = c.ranges.number in
    let digits = rw (magnitude_is fits c.magnitude.ensures) at c.width.ensures.0 in (
      omega (arith, digits, signed_long fits),
      omega (arith, c.width.ensures.1, digits, signed_long fits, signed_length c.args.number),
    )
