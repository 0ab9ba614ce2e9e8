-- `writing::totals::clauses_total` meets its contract: the sizes of the rows passed are in the total.
use native.Mathlib.Omega.{arith}
use Rattle.tables.specs.Rows.{clause_count}
use Rattle.tables.proofs.TotalLaws.{summing_start, summing_turn, summing_end}
use Rattle.writing.proofs.totals.clauses_total.Goals as goal

pub loop-row-init : goal.loop-row-init
loop-row-init c = summing_start _ _ _

pub overflow_add-total : goal.overflow_add-total
unfolding clause_count
overflow_add-total c = omega arith

pub loop-row-preserved : goal.loop-row-preserved
loop-row-preserved c = summing_turn _ _ _ _ _ _ (omega arith) c.clause_size-total.ensures c.loop-row.invariant

pub returns : goal.returns
unfolding clause_count
returns c = let sum = summing_end _ _ _ _ _ (omega arith) c.loop-row.invariant in
    (rw c.clause_count-row-end.ensures at sum.0, omega arith)
