-- `tables::rows::entry` meets its contract: an entry of a table of 16-bit numbers is below 65,536.
use mathlib.Core.Path.{refl}
use native.Mathlib.Omega.{arith}
use Rattle.tables.proofs.rows.entry.Goals as goal

pub overflow_cast-result : goal.overflow_cast-result
overflow_cast-result c = omega (arith, c.shared_slice_known-1.given c.args.place)

pub returns : goal.returns
returns c = record { is = refl; small = omega (arith, c.shared_slice_known-1.given c.args.place) }
