-- `tables::load_rows::load_row_is_good` meets its contract: the entries of a whole row lie in the table.
use native.Mathlib.Nat.{add-zero}
use native.Mathlib.Omega.{arith}
use Rattle.tables.specs.Loads.{load_count, load_entry, load_low, load_high}
use Rattle.tables.specs.Sound.{good_load_row}
use Rattle.tables.proofs.load_rows.load_row_is_good.Goals as goal

pub overflow_mul-at : goal.overflow_mul-at
unfolding load_count
overflow_mul-at c = omega arith

pub overflow_add-at : goal.overflow_add-at
unfolding load_count
overflow_add-at c = omega arith

pub is_index-requires : goal.is_index-requires
unfolding load_count
is_index-requires c = omega arith

pub overflow_add-at-2 : goal.overflow_add-at-2
unfolding load_count
overflow_add-at-2 c = omega arith

pub is_index-requires-2 : goal.is_index-requires-2
unfolding load_count
is_index-requires-2 c = omega arith

pub bound_is_good-requires : goal.bound_is_good-requires
unfolding load_count
bound_is_good-requires c = omega arith

pub overflow_add-at-3 : goal.overflow_add-at-3
unfolding load_count
overflow_add-at-3 c = omega arith

pub bound_is_good-requires-2 : goal.bound_is_good-requires-2
unfolding load_count
bound_is_good-requires-2 c = omega arith

pub returns : goal.returns
unfolding good_load_row load_entry load_high load_low
returns c = rw (
  add-zero,
  c.load_size.ensures.is,
  c.load_start.ensures.is,
  c.is_index.ensures,
  c.is_index-2.ensures,
  c.bound_is_good.ensures,
  c.bound_is_good-2.ensures,
)
