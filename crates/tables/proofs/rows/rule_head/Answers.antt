-- `tables::rows::rule_head` meets its contract: the first entry of a whole row lies in the table.
use native.Mathlib.Omega.{arith}
use Rattle.tables.specs.Rows.{rule_count, rule_head}
use Rattle.tables.proofs.rows.rule_head.Goals as goal

pub overflow_mul-row : goal.overflow_mul-row
unfolding rule_count
overflow_mul-row c = omega arith

pub entry-requires : goal.entry-requires
unfolding rule_count
entry-requires c = omega arith

pub returns : goal.returns
unfolding rule_head
returns c = c.entry.ensures
