-- `checker::blocking::unblocked_row` meets its contract: before `row` no row is unblocked, and before `i` no literal of the row's body blocks.
use mathlib.Core.Path.{refl, ◌∙◌}
use native.Mathlib.Omega.{arith}
use Rattle.tables.proofs.Faults.{search_start, search_end}
use Rattle.checker.proofs.RowReads.{row_head, row_passed, row_start, row_reached, row_turn, row_stop, row_end}
use Rattle.checker.proofs.blocking.unblocked_row.Goals as goal

pub rows-init : goal.rows-init
rows-init c = (search_start, refl)

pub bounds-values-head : goal.bounds-values-head
bounds-values-head c = row_head c.requires.levelled.rows (omega arith) c.rule_head-head.ensures.is

pub rows-preserved-then-rule_group-group : goal.rows-preserved-then-rule_group-group
rows-preserved-then-rule_group-group c = let found = c.rows.invariant in
    (row_passed c.requires (omega arith) c.rule_head-head.ensures.is found.0 c.rule_group.ensures.is c.if-rule_group-group.true, found.1)

pub bounds-levels-head : goal.bounds-levels-head
bounds-levels-head c = let within = row_head c.requires.levelled.rows (omega arith) c.rule_head-head.ensures.is in
    omega arith

pub loop-i-init : goal.loop-i-init
loop-i-init c = row_start c.requires (omega arith) c.rule_head-head.ensures.is c.rows.invariant.0 c.rule_group.ensures.is c.if-rule_group-group.false
    c.rule_start-start.ensures.is c.rule_size-size.ensures.is

pub literal_blocks-requires : goal.literal_blocks-requires
literal_blocks-requires c = row_reached c.loop-i.invariant c.loop-i-test.true

pub rows-preserved : goal.rows-preserved
rows-preserved c = let scan = c.loop-i.invariant in (
  row_stop scan c.loop-i-test.true c.literal_blocks.ensures c.if-literal_blocks.true,
  c.rows.invariant.1,
)

pub loop-i-preserved : goal.loop-i-preserved
loop-i-preserved c = let scan = c.loop-i.invariant in
    row_turn scan c.loop-i-test.true c.literal_blocks.ensures c.if-literal_blocks.false

pub returns-after-rows : goal.returns-after-rows
returns-after-rows c = c.rows.invariant.1 ∙ search_end (omega arith) c.rows.invariant.0

pub returns-after-loop-i : goal.returns-after-loop-i
returns-after-loop-i c = row_end c.loop-i.invariant c.loop-i-test.false
