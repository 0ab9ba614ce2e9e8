-- `tables::row_faults::clause_row_is_bad` meets its contract, field by field.
use Rattle.tables.specs.Sound.{bad_clause_row}
use Rattle.tables.proofs.row_faults.clause_row_is_bad.Goals as goal

pub returns : goal.returns
unfolding bad_clause_row
returns c = rw (c.clause_start-start.ensures.is, c.clause_size-size.ensures.is)
