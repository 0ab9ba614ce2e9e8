-- `tables::groups::group_count` meets its contract: `high` is the highest group of the rows passed.
use Rattle.tables.specs.Rows.{rule_group}
use Rattle.tables.proofs.GroupLaws.{Highest}
use Rattle.tables.proofs.groups.group_count.Given as goal

abbrev pub invariant-loop-row : goal.invariant-loop-row
invariant-loop-row l = Highest (rule_group l.rules) l.row-end l.row l.high
