-- `satisfaction::loads::term_count` meets its contract: a term's tenths times the truth of its literal are what it counts.
use lib.ListN.{get_or}
use lib.IntN.{pos}
use mir.Syntax.{w16}
use mir.Val.{SFits}
use mir.Facts.{to_z-of_z}
use Rattle.std.proofs.Common.{rules}
use Rattle.satisfaction.proofs.LoadLaws.{counted_back, term_times}
use Rattle.satisfaction.proofs.loads.term_count.Goals as goal

pub returns : goal.returns
returns c =
    let fits : SFits w16 (get_or c.args.minutes.now c.args.place (pos 0)) = search rules in
    counted_back (term_times _ _ _ _ _ c.literal_true-counted.ensures (counted_back (rw (to_z-of_z fits) at c.tenths_of.ensures)))
