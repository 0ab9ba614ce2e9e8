-- `tables::rows::clause_size` meets its contract: the second entry of a whole row lies in the table.
use native.Mathlib.Omega.{arith}
use Rattle.tables.specs.Rows.{clause_count, clause_size}
use Rattle.tables.proofs.rows.clause_size.Goals as goal

pub overflow_mul-row : goal.overflow_mul-row
unfolding clause_count
overflow_mul-row c = omega arith

pub overflow_add-row : goal.overflow_add-row
unfolding clause_count
overflow_add-row c = omega arith

pub entry-requires : goal.entry-requires
unfolding clause_count
entry-requires c = omega arith

pub returns : goal.returns
unfolding clause_size
returns c = c.entry.ensures
