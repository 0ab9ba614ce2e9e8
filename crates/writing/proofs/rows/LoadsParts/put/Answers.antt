-- `writing::rows::LoadsParts::put` meets its contract: the parts of the line stand one behind the other.
use native.Mathlib.Omega.{arith}
use mir.Syntax.{w32}
use mir.Val.{SFits}
use Rattle.writing.proofs.RowLaws.{bound_printed, bound_length, puts_bound, load_length, load_least, puts_load}
use Rattle.writing.proofs.rows.LoadsParts.put.Goals as goal

pub put-begun-requires : goal.put-begun-requires
put-begun-requires c = omega (arith, load_least c.args.self.now.loads.now c.args.self.now.load_literals.now c.args.self.now.minutes.now c.args.row, c.requires.room)

pub put_signed-low-requires : goal.put_signed-low-requires
put_signed-low-requires c =
    let low_fits : SFits w32 c.load_low.result =
    record { sfits = c.load_low.type_inv } in (
      bound_printed (low_fits) c.load_low.ensures (c.requires.inside.0.low c.args.row c.requires.inside.1),
      omega (arith, load_least c.args.self.now.loads.now c.args.self.now.load_literals.now c.args.self.now.minutes.now c.args.row, c.requires.room, bound_length (low_fits) c.load_low.ensures, c.put-begun.ensures.answered),
    )

pub put-parted-requires : goal.put-parted-requires
put-parted-requires c =
    let low_fits : SFits w32 c.load_low.result =
    record { sfits = c.load_low.type_inv } in
    let low = puts_bound (low_fits) c.load_low.ensures c.put_signed-low.ensures in
    omega (arith, load_least c.args.self.now.loads.now c.args.self.now.load_literals.now c.args.self.now.minutes.now c.args.row, c.requires.room, c.put-begun.ensures.answered, low.answered)

pub put_signed-high-requires : goal.put_signed-high-requires
put_signed-high-requires c =
    let low_fits : SFits w32 c.load_low.result =
    record { sfits = c.load_low.type_inv } in
    let high_fits : SFits w32 c.load_high.result =
    record { sfits = c.load_high.type_inv } in
    let low = puts_bound (low_fits) c.load_low.ensures c.put_signed-low.ensures in (
      bound_printed (high_fits) c.load_high.ensures (c.requires.inside.0.high c.args.row c.requires.inside.1),
      omega (arith, load_least c.args.self.now.loads.now c.args.self.now.load_literals.now c.args.self.now.minutes.now c.args.row, c.requires.room, c.put-begun.ensures.answered, low.answered, bound_length (high_fits) c.load_high.ensures, c.put-parted.ensures.answered),
    )

pub put_line_of_terms-requires-clause-size_in_bounds_2 : goal.put_line_of_terms-requires-clause-size_in_bounds_2
put_line_of_terms-requires-clause-size_in_bounds_2 c =
    let low_fits : SFits w32 c.load_low.result =
    record { sfits = c.load_low.type_inv } in
    let high_fits : SFits w32 c.load_high.result =
    record { sfits = c.load_high.type_inv } in
    let low = puts_bound (low_fits) c.load_low.ensures c.put_signed-low.ensures in
    let high = puts_bound (high_fits) c.load_high.ensures c.put_signed-high.ensures in
    let long = load_length c.args.self.now.loads.now c.args.self.now.load_literals.now c.args.self.now.minutes.now c.args.row c.load_start-start.ensures.is c.load_size-size.ensures.is in
    omega (arith, long, c.requires.room, c.put-begun.ensures.answered, low.answered, c.put-parted.ensures.answered, high.answered)

pub returns : goal.returns
returns c =
    let low_fits : SFits w32 c.load_low.result =
    record { sfits = c.load_low.type_inv } in
    let high_fits : SFits w32 c.load_high.result =
    record { sfits = c.load_high.type_inv } in
    puts_load _ _ _ _ c.load_start-start.ensures.is c.load_size-size.ensures.is c.put-begun.ensures (puts_bound (low_fits) c.load_low.ensures c.put_signed-low.ensures) c.put-parted.ensures
    (puts_bound (high_fits) c.load_high.ensures c.put_signed-high.ensures) c.put_line_of_terms.ensures
