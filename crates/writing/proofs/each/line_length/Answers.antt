-- `writing::each::line_length` meets its contract: the parts, and two bytes behind them.
use native.Mathlib.Omega.{arith}
use lib.ListN.{length-append}
use Rattle.writing.proofs.each.line_length.Goals as goal

pub returns : goal.returns
returns g c = record { is = rw length-append (omega (arith, c.each_length.ensures.is)); few = omega (arith, c.each_length.ensures.few) }
