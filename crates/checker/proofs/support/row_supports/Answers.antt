-- `checker::support::row_supports` meets its contract, field by field.
use mathlib.Core.Bool.{and-false}
use native.Mathlib.Omega.{arith}
use borrow.Author.Tests.{eq-eqb, ne_eqb}
use Rattle.wellfounded.specs.Levels.{level_at}
use Rattle.tables.specs.Rows.{rule_body, in_group}
use Rattle.tables.proofs.MarkLaws.{true_at}
use Rattle.checker.specs.internal.Scans.{supports_row}
use Rattle.checker.proofs.RowReads.{row_head, row_body}
use Rattle.checker.proofs.support.row_supports.Goals as goal

pub returns-then-rule_group-group : goal.returns-then-rule_group-group
unfolding in_group supports_row
returns-then-rule_group-group c = rw (← c.rule_group.ensures.is, ne_eqb _ _ c.if-rule_group-group.true)

pub bounds-values-head : goal.bounds-values-head
bounds-values-head c = row_head c.requires.1.rows c.requires.0 c.rule_head-head.ensures.is

pub returns-then-values-head-ne1 : goal.returns-then-values-head-ne1
unfolding supports_row
returns-then-values-head-ne1 c = let head = c.rule_head-head.ensures.is in
    rw (← head, true_at _ _ (row_head c.requires.1.rows c.requires.0 head), ne_eqb _ _ c.if-values-head-ne1.true, and-false)

pub bounds-levels-head : goal.bounds-levels-head
bounds-levels-head c = let within = row_head c.requires.1.rows c.requires.0 c.rule_head-head.ensures.is in
    omega arith

pub body_supports-requires : goal.body_supports-requires
body_supports-requires c = (
  row_body c.requires.1.rows c.requires.0 c.rule_start-start.ensures.is c.rule_size-size.ensures.is,
  c.requires.1.long,
)

pub returns : goal.returns
unfolding in_group level_at rule_body supports_row
returns c = let head = c.rule_head-head.ensures.is in
    rw (
      ← head,
      ← c.rule_group.ensures.is,
      ← c.rule_start-start.ensures.is,
      ← c.rule_size-size.ensures.is,
      true_at _ _ (row_head c.requires.1.rows c.requires.0 head),
      c.if-values-head-ne1.false,
      eq-eqb _ _ c.if-rule_group-group.false,
    )
    c.body_supports.ensures
