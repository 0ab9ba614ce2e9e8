-- `writing::totals::terms_total` meets its contract: the sizes of the rows passed are in the total.
use native.Mathlib.Omega.{arith}
use Rattle.tables.specs.Loads.{load_count}
use Rattle.tables.proofs.TotalLaws.{summing_start, summing_turn, summing_end}
use Rattle.writing.proofs.totals.terms_total.Goals as goal

pub loop-row-init : goal.loop-row-init
loop-row-init c = summing_start _ _ _

pub overflow_add-total : goal.overflow_add-total
unfolding load_count
overflow_add-total c = omega arith

pub loop-row-preserved : goal.loop-row-preserved
loop-row-preserved c = summing_turn _ _ _ _ _ _ (omega arith) c.load_size-total.ensures c.loop-row.invariant

pub returns : goal.returns
unfolding load_count
returns c = rw c.load_count-row-end.ensures at (summing_end _ _ _ _ _ (omega arith) c.loop-row.invariant).0
