-- `printing::put_decimal` meets its contract: each number of digits has its function, and at least the room for so many digits.
use mathlib.Core.Path.{refl}
use native.Mathlib.Omega.{arith}
use Rattle.printing.proofs.DecimalLaws.{length_some, length_2, length_3, length_4, least_2, least_3, least_4, puts_one}
use Rattle.printing.proofs.put_decimal.Goals as goal

pub bounds-buffer-at : goal.bounds-buffer-at
bounds-buffer-at c = omega (arith, length_some c.args.number, c.requires.1)

pub returns-then-number-lt10 : goal.returns-then-number-lt10
returns-then-number-lt10 c = puts_one (omega arith) refl

pub put_digits-requires : goal.put_digits-requires
put_digits-requires c = (omega (arith, least_2 c.args.number, length_2 c.args.number), omega (arith, least_2 c.args.number, c.requires.1))

pub put_digits-requires-then-number-lt1000 : goal.put_digits-requires-then-number-lt1000
put_digits-requires-then-number-lt1000 c = (omega (arith, least_3 c.args.number, length_3 c.args.number), omega (arith, least_3 c.args.number, c.requires.1))

pub put_digits-requires-then-number-lt10000 : goal.put_digits-requires-then-number-lt10000
put_digits-requires-then-number-lt10000 c = (omega (arith, least_4 c.args.number, length_4 c.args.number), omega (arith, least_4 c.args.number, c.requires.1))
