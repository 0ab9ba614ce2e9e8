-- `judging::reached::judge_shape` meets its contract: limits, order and space are tested in turn.
use mathlib.Core.Path.{ap}
use mathlib.Core.Bool.{not}
use Rattle.judging.proofs.ShapeLaws.{shape_outside_limits, shape_out_of_order, shape_no_space, shape_moves_on}
use Rattle.judging.proofs.reached.judge_shape.Goals as goal

pub returns-then-not-shape-counts : goal.returns-then-not-shape-counts
returns-then-not-shape-counts c = shape_outside_limits _ _ _ _ c.count-counts.ensures (ap not c.if-not-shape-counts.true)

pub returns-then-not-may_follow-parts_in_order : goal.returns-then-not-may_follow-parts_in_order
returns-then-not-may_follow-parts_in_order c = shape_out_of_order _ _ _ _ c.count-counts.ensures (ap not c.if-not-shape-counts.false) c.may_follow.ensures
    c.parts_in_order.ensures (ap not c.if-not-may_follow-parts_in_order.true)

pub returns-then-not-counts : goal.returns-then-not-counts
returns-then-not-counts c = shape_no_space _ _ _ _ c.count-counts.ensures (ap not c.if-not-shape-counts.false) c.may_follow.ensures
    c.parts_in_order.ensures (ap not c.if-not-may_follow-parts_in_order.false) c.if-not-counts.true

pub returns : goal.returns
returns c = shape_moves_on _ _ _ _ c.count-counts.ensures (ap not c.if-not-shape-counts.false) c.may_follow.ensures
    c.parts_in_order.ensures (ap not c.if-not-may_follow-parts_in_order.false) c.if-not-counts.false
