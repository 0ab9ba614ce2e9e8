-- `tables::marks::mark_heads` meets its contract: the marks are those of the entry with the heads of the group's rows among those passed put on.
use mathlib.Core.Path.{sym, ◌∙◌}
use native.Mathlib.Omega.{arith}
use borrow.Author.Tests.{eq-eqb, ne_eqb}
use Rattle.tables.specs.Rows.{in_group, heads_rule}
use Rattle.tables.proofs.MarkLaws.{marked_start, marked_end, row_puts, row_passes}
use Rattle.tables.proofs.marks.mark_heads.Goals as goal
use Rattle.tables.proofs.marks.mark_heads.Goals.{then-rule_group-group, else-rule_group-group}

pub loop-row-init : goal.loop-row-init
loop-row-init c = (omega arith, marked_start _ _)

pub bounds-marks-head : goal.bounds-marks-head
bounds-marks-head c = omega (arith, c.requires c.loop-row.row (omega arith))

pub loop-row-preserved : goal.loop-row-preserved
unfolding in_group
loop-row-preserved c = let head = c.rule_head-head.ensures.is in
    let group = c.rule_group.ensures.is in
    let marked = c.loop-row.invariant.1 in (
      omega arith,
      elim c.if-rule_group-group.branch [
        | then-rule_group-group w ↦ rw w.marks-is (row_puts _ _ _ _ _ _ head (eq-eqb _ _ (sym group ∙ w.if-rule_group-group.true)) marked)
        | else-rule_group-group w ↦ rw w.marks-is (row_passes _ _ _ _ _ (ne_eqb _ _ (λ e. w.if-rule_group-group.false (group ∙ e))) marked)
      ],
    )

pub shape_of-marks : goal.shape_of-marks
shape_of-marks c = c.loop-row.invariant.1.long

pub returns : goal.returns
unfolding heads_rule
returns c = marked_end _ _ _ _ _ (omega arith) c.loop-row.invariant.1
