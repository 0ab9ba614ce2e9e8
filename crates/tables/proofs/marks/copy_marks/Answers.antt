-- `tables::marks::copy_marks` meets its contract: the atoms passed have the marks that are copied.
use native.Mathlib.Omega.{arith}
use Rattle.tables.proofs.marks.copy_marks.Goals as goal

pub returns : goal.returns
returns c = let w = c.loop-atom.invariant in record { long = w.long; same = λ atom l. w.done atom (omega arith) }
