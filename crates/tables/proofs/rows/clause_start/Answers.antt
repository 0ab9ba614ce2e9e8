-- `tables::rows::clause_start` meets its contract: the first entry of a whole row lies in the table.
use native.Mathlib.Omega.{arith}
use Rattle.tables.specs.Rows.{clause_count, clause_start}
use Rattle.tables.proofs.rows.clause_start.Goals as goal

pub overflow_mul-row : goal.overflow_mul-row
unfolding clause_count
overflow_mul-row c = omega arith

pub entry-requires : goal.entry-requires
unfolding clause_count
entry-requires c = omega arith

pub returns : goal.returns
unfolding clause_start
returns c = c.entry.ensures
