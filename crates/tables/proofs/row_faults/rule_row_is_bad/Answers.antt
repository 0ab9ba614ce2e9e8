-- `tables::row_faults::rule_row_is_bad` meets its contract, field by field.
use Rattle.tables.specs.Sound.{bad_rule_row}
use Rattle.tables.proofs.row_faults.rule_row_is_bad.Goals as goal

pub returns : goal.returns
unfolding bad_rule_row
returns c = rw (c.rule_head-head.ensures.is, c.rule_start-start.ensures.is, c.rule_size-size.ensures.is)
