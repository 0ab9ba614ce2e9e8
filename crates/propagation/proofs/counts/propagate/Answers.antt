-- `propagation::counts::propagate` meets its contract: before each atom of the part those before it have been propagated.
use native.Mathlib.Omega.{arith}
use Rattle.propagation.proofs.FallLaws.{part_start, part_starts, part_small, part_fits, part_turn}
use Rattle.propagation.proofs.counts.propagate.Goals as goal

pub loop-i-init : goal.loop-i-init
loop-i-init c = part_start c.requires

pub offset_bounds-starts-literal : goal.offset_bounds-starts-literal
offset_bounds-starts-literal c = omega (arith, part_small c.requires c.loop-i-test.true c.loop-i.invariant c.true_literal-literal.ensures)

pub bounds-starts-literal : goal.bounds-starts-literal
bounds-starts-literal c = omega (arith, part_starts c.requires c.loop-i-test.true c.loop-i.invariant c.true_literal-literal.ensures)

pub overflow_add-last : goal.overflow_add-last
overflow_add-last c = omega (arith, part_small c.requires c.loop-i-test.true c.loop-i.invariant c.true_literal-literal.ensures)

pub offset_bounds-starts-literal-in-loop-i : goal.offset_bounds-starts-literal-in-loop-i
offset_bounds-starts-literal-in-loop-i c = omega (arith, part_small c.requires c.loop-i-test.true c.loop-i.invariant c.true_literal-literal.ensures)

pub bounds-starts-literal-in-loop-i : goal.bounds-starts-literal-in-loop-i
bounds-starts-literal-in-loop-i c = part_starts c.requires c.loop-i-test.true c.loop-i.invariant c.true_literal-literal.ensures

pub lower_rows-behind-requires : goal.lower_rows-behind-requires
lower_rows-behind-requires c = part_fits c.requires c.loop-i-test.true c.loop-i.invariant c.true_literal-literal.ensures

pub loop-i-preserved : goal.loop-i-preserved
loop-i-preserved c = part_turn c.requires c.loop-i-test.true c.loop-i.invariant c.true_literal-literal.ensures c.lower_rows-behind.ensures
