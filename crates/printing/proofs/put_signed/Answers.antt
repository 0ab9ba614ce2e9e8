-- `printing::put_signed` meets its contract: a minus, and the magnitude behind it or over it.
use native.Mathlib.Omega.{arith}
use lib.IntN.{nat_abs}
use lib.ListN.{length-set}
use Rattle.printing.proofs.DecimalLaws.{length_some}
use Rattle.printing.proofs.SignedLaws.{signed_long, magnitude_is, puts_signed}
use Rattle.printing.proofs.put_signed.Goals as goal

pub bounds-buffer-at : goal.bounds-buffer-at
bounds-buffer-at c = omega (arith, signed_long c.ranges.number, length_some (nat_abs c.args.number), c.requires.1)

pub put_decimal-requires : goal.put_decimal-requires
put_decimal-requires c = let long = signed_long c.ranges.number in
    rw (magnitude_is c.ranges.number c.magnitude.ensures, length-set) (c.requires.0, omega (arith, c.requires.1))

pub returns : goal.returns
returns c = let fits = c.ranges.number in
    puts_signed fits (magnitude_is fits c.magnitude.ensures) c.put_decimal.ensures
