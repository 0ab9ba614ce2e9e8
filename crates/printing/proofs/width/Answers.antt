-- `printing::width` meets its contract: one digit more for each power of ten that is reached.
use native.Mathlib.Omega.{arith}
use Rattle.printing.proofs.DecimalLaws.{length_7}
use Rattle.printing.proofs.Widths.{digits_counted}
use Rattle.printing.proofs.width.Goals as goal

pub returns : goal.returns
returns c = let e = digits_counted c.args.number c.requires in
    (e, omega (arith, e, length_7 c.args.number (omega (arith, c.requires))))
