-- `checker::support::mark_supported` meets its contract: the marks are those of the entry with the atoms that the rows passed support put on.
use native.Mathlib.Omega.{arith}
use Rattle.tables.proofs.MarkLaws.{marked_start, marked_end, row_puts, row_passes, row_again}
use Rattle.checker.specs.internal.Scans.{supported_by}
use Rattle.checker.proofs.support.mark_supported.Goals as goal
use Rattle.checker.proofs.support.mark_supported.Goals.{then-supported-head-ne1+then-row_supports, else-supported-head-ne1, else-supported-head-ne1-via-then-supported-head-ne1+else-row_supports, else-supported-head-ne1-via-else-supported-head-ne1}

pub loop-row-init : goal.loop-row-init
loop-row-init c = (omega arith, marked_start _ _)

pub loop-row-preserved : goal.loop-row-preserved
loop-row-preserved c =
    let head = c.rule_head-head.ensures.is in
    let marked = c.loop-row.invariant.1 in (
      omega arith,
      elim c.if-supported-head-ne1.branch [
        | then-supported-head-ne1+then-row_supports w ↦ rw w.supported-is (row_puts _ _ _ _ _ _ head (rw (← w.row_supports.ensures) w.if-row_supports.true) marked)
        | else-supported-head-ne1 w ↦ rw w.supported-is (elim w.else-supported-head-ne1.branch [
          | else-supported-head-ne1-via-then-supported-head-ne1+else-row_supports v ↦ row_passes _ _ _ _ _ (rw (← v.row_supports.ensures) v.if-row_supports.false) marked
          | else-supported-head-ne1-via-else-supported-head-ne1 v ↦ row_again _ _ _ _ _ _ head v.if-supported-head-ne1.false marked
        ])
      ],
    )

pub returns : goal.returns
unfolding supported_by
returns c = marked_end _ _ _ _ _ (omega arith) c.loop-row.invariant.1
