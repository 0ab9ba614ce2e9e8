-- `writing::rows::LoadsParts::length` meets its contract: the word, the bounds and the terms.
use native.Mathlib.Omega.{arith}
use mir.Syntax.{w32}
use mir.Val.{SFits}
use Rattle.writing.proofs.RowLaws.{load_length}
use Rattle.writing.proofs.LengthLaws.{bound_count}
use Rattle.writing.proofs.rows.LoadsParts.length.Goals as goal

pub returns : goal.returns
returns c =
    let low_fits : SFits w32 c.load_low.result =
    record { sfits = c.load_low.type_inv } in
    let high_fits : SFits w32 c.load_high.result =
    record { sfits = c.load_high.type_inv } in
    let long = load_length c.args.self.now.loads.now c.args.self.now.load_literals.now c.args.self.now.minutes.now c.args.row c.load_start-start.ensures.is c.load_size-size.ensures.is in
    let low = bound_count (low_fits) c.load_low.ensures c.signed_width-low.ensures.0 in
    let high = bound_count (high_fits) c.load_high.ensures c.signed_width-high.ensures.0 in
    record {
      is = omega (arith, long, low, high, c.line_of_terms_length.ensures.is);
      few = omega (arith, c.signed_width-low.ensures.1, c.signed_width-high.ensures.1, c.line_of_terms_length.ensures.few);
    }
