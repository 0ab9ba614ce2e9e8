-- `tables::load_rows::load_size` meets its contract: the fourth entry of a whole row lies in the table.
use native.Mathlib.Omega.{arith}
use Rattle.tables.specs.Loads.{load_count, load_size, load_entry}
use Rattle.tables.proofs.load_rows.load_size.Goals as goal

pub overflow_mul-row : goal.overflow_mul-row
unfolding load_count
overflow_mul-row c = omega arith

pub overflow_add-row : goal.overflow_add-row
unfolding load_count
overflow_add-row c = omega arith

pub load_index-requires : goal.load_index-requires
unfolding load_count
load_index-requires c = omega arith

pub returns : goal.returns
unfolding load_entry load_size
returns c = c.load_index.ensures
