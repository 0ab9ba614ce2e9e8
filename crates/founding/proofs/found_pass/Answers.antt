-- `founding::found_pass` meets its contract: the marks are those that the rows passed make of the entry's, and so many are new.
use native.Mathlib.Omega.{arith}
use Rattle.founding.proofs.FoundingLaws.{unmarked_le, passed_start, passed_turn, passed_end}
use Rattle.founding.proofs.found_pass.Goals as goal
use Rattle.founding.proofs.found_pass.Goals.{then-found_row, else-found_row}

pub loop-row-init : goal.loop-row-init
loop-row-init c = passed_start

pub overflow_add-marked : goal.overflow_add-marked
overflow_add-marked c = omega (arith, c.loop-row.invariant.fewer, unmarked_le c.args.founded.now)

pub loop-row-preserved : goal.loop-row-preserved
loop-row-preserved c = passed_turn _ _ _ c.found_row.result _ _ c.found_row.ensures.0 c.found_row.ensures.1 c.found_row.auto.founded
    (elim c.if-found_row.branch [
      | then-found_row w ↦ rw w.if-found_row.true (omega (arith, w.marked-is))
      | else-found_row w ↦ rw w.if-found_row.false (omega (arith, w.marked-is))
    ])
    c.loop-row.invariant

pub returns : goal.returns
returns c = passed_end _ _ (omega arith) c.loop-row.invariant
