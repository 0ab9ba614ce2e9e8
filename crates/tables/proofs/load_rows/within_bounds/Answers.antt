-- `tables::load_rows::within_bounds` meets its contract: LO and HI are the first two entries of the row.
use Prim.Native.Nat.{◌+◌, ◌*◌}
use native.Mathlib.Omega.{arith}
use lib.IntN.{pos}
use lib.ListN.{get_or}
use mir.Syntax.{w32}
use mir.Val.{SFits}
use mir.Facts.{to_z-of_z}
use Rattle.tables.specs.Loads.{load_count}
use Rattle.tables.proofs.RowFaults.{row_low, row_high}
use Rattle.tables.proofs.load_rows.within_bounds.Goals as goal

pub overflow_mul-low : goal.overflow_mul-low
unfolding load_count
overflow_mul-low c = omega arith

pub offset_bounds-loads-row : goal.offset_bounds-loads-row
unfolding load_count
offset_bounds-loads-row c = omega arith

pub bounds-loads-row : goal.bounds-loads-row
unfolding load_count
bounds-loads-row c = omega arith

pub overflow_mul-high : goal.overflow_mul-high
unfolding load_count
overflow_mul-high c = omega arith

pub overflow_add-high : goal.overflow_add-high
unfolding load_count
overflow_add-high c = omega arith

pub offset_bounds-loads-row-2 : goal.offset_bounds-loads-row-2
unfolding load_count
offset_bounds-loads-row-2 c = omega arith

pub bounds-loads-row-2 : goal.bounds-loads-row-2
unfolding load_count
bounds-loads-row-2 c = omega arith

pub returns : goal.returns
returns c =
    let low_fits : SFits w32 (get_or c.args.loads.now (c.args.row * 4) (pos 0)) =
    record { sfits = c.low-1.given } in
    let high_fits : SFits w32 (get_or c.args.loads.now (c.args.row * 4 + 1) (pos 0)) =
    record { sfits = c.high-1.given } in
    rw (to_z-of_z (low_fits), to_z-of_z (high_fits), to_z-of_z c.ranges.sum, row_low, row_high)
