-- `tables::load_rows::load_high` meets its contract: HI is the second entry of the row.
use Prim.Native.Nat.{◌+◌, ◌*◌}
use native.Mathlib.Omega.{arith}
use lib.IntN.{pos}
use lib.ListN.{get_or}
use mir.Syntax.{w32}
use mir.Val.{SFits}
use mir.Facts.{to_z-of_z}
use Rattle.tables.specs.Loads.{load_count}
use Rattle.tables.proofs.RowFaults.{row_high}
use Rattle.tables.proofs.load_rows.load_high.Goals as goal

pub overflow_mul-result : goal.overflow_mul-result
unfolding load_count
overflow_mul-result c = omega arith

pub overflow_add-result : goal.overflow_add-result
unfolding load_count
overflow_add-result c = omega arith

pub offset_bounds-loads-row : goal.offset_bounds-loads-row
unfolding load_count
offset_bounds-loads-row c = omega arith

pub bounds-loads-row : goal.bounds-loads-row
unfolding load_count
bounds-loads-row c = omega arith

pub returns : goal.returns
returns c =
    let fits : SFits w32 (get_or c.args.loads.now (c.args.row * 4 + 1) (pos 0)) =
    record { sfits = c.result-1.given } in
    rw (to_z-of_z (fits), row_high)
