-- `tables::rows::rule_start` meets its contract: the second entry of a whole row lies in the table.
use native.Mathlib.Omega.{arith}
use Rattle.tables.specs.Rows.{rule_count, rule_start}
use Rattle.tables.proofs.rows.rule_start.Goals as goal

pub overflow_mul-row : goal.overflow_mul-row
unfolding rule_count
overflow_mul-row c = omega arith

pub overflow_add-row : goal.overflow_add-row
unfolding rule_count
overflow_add-row c = omega arith

pub entry-requires : goal.entry-requires
unfolding rule_count
entry-requires c = omega arith

pub returns : goal.returns
unfolding rule_start
returns c = c.entry.ensures
