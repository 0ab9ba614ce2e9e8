-- `writing::parts::TermsParts::length` meets its contract: minutes and a literal, and three bytes around them.
use native.Mathlib.Omega.{arith}
use Rattle.std.proofs.Common.{rules}
use lib.IntN.{pos}
use lib.ListN.{get_or}
use mir.Syntax.{w16}
use mir.Val.{SFits}
use Rattle.writing.proofs.PartLaws.{term_length}
use Rattle.writing.proofs.LengthLaws.{minutes_count}
use Rattle.writing.proofs.parts.TermsParts.length.Goals as goal

pub returns : goal.returns
returns c =
    let fits : SFits w16 (get_or c.args.self.now.minutes.now c.args.place (pos 0)) =
    search rules in
    let minutes = minutes_count (fits) c.signed_width.ensures.0 in
    record {
      is = omega (arith, term_length c.args.self.now.load_literals.now c.args.self.now.minutes.now c.args.place, minutes, c.literal_length.ensures.is);
      few = omega (arith, c.signed_width.ensures.1, c.literal_length.ensures.few);
    }
