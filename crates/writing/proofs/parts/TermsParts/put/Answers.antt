-- `writing::parts::TermsParts::put` meets its contract: the parts of the term stand one behind the other.
use native.Mathlib.Omega.{arith}
use Rattle.std.proofs.Common.{rules}
use lib.IntN.{pos}
use lib.ListN.{get_or}
use mir.Syntax.{w16}
use mir.Val.{SFits}
use Rattle.writing.proofs.PartLaws.{minutes_printed, minutes_length, puts_minutes, term_length, puts_term}
use Rattle.writing.proofs.parts.TermsParts.put.Goals as goal

pub put-opened-requires : goal.put-opened-requires
put-opened-requires c = omega (arith, term_length c.args.self.now.load_literals.now c.args.self.now.minutes.now c.args.place)

pub put_signed-counted-requires : goal.put_signed-counted-requires
put_signed-counted-requires c =
    let fits : SFits w16 (get_or c.args.self.now.minutes.now c.args.place (pos 0)) =
    search rules in
    (minutes_printed (fits), omega (arith, term_length c.args.self.now.load_literals.now c.args.self.now.minutes.now c.args.place, minutes_length (fits), c.put-opened.ensures.answered))

pub put_literal-named-requires : goal.put_literal-named-requires
put_literal-named-requires c =
    let fits : SFits w16 (get_or c.args.self.now.minutes.now c.args.place (pos 0)) =
    search rules in
    let counted = puts_minutes (fits) c.put_signed-counted.ensures in
    omega (arith, term_length c.args.self.now.load_literals.now c.args.self.now.minutes.now c.args.place, c.put-opened.ensures.answered, counted.answered)

pub put-requires : goal.put-requires
put-requires c =
    let fits : SFits w16 (get_or c.args.self.now.minutes.now c.args.place (pos 0)) =
    search rules in
    let counted = puts_minutes (fits) c.put_signed-counted.ensures in
    omega (arith, term_length c.args.self.now.load_literals.now c.args.self.now.minutes.now c.args.place, c.put-opened.ensures.answered, counted.answered, c.put_literal-named.ensures.answered)

pub returns : goal.returns
returns c =
    let fits : SFits w16 (get_or c.args.self.now.minutes.now c.args.place (pos 0)) =
    search rules in
    puts_term _ _ _ c.put-opened.ensures (puts_minutes (fits) c.put_signed-counted.ensures) c.put_literal-named.ensures c.put.ensures
