-- `page::put_page` meets its contract: the parts of the page stand one behind the other, and there is room for all.
use mathlib.Core.Path.{ap}
use mathlib.Core.Bool.{not}
use native.Mathlib.Omega.{arith}
use Rattle.printing.proofs.PutLaws.{puts_length}
use Rattle.page.proofs.Listing.{page_plain, page_whole}
use Rattle.page.proofs.Lengths.{length_plain, length_whole}
use Rattle.page.proofs.put_page.Goals as goal

pub put_verdict-requires : goal.put_verdict-requires
put_verdict-requires c = (c.requires.verdict_bound.0, omega (arith, length_plain c.args.made c.args.verdict c.args.rounds c.args.values.now c.args.levels.now (ap not c.if-not-made.true), c.requires.verdict_bound.2))

pub returns-then-not-made : goal.returns-then-not-made
returns-then-not-made c = page_plain _ _ _ _ _ (ap not c.if-not-made.true) c.put_verdict.ensures

pub put_made-counted-requires : goal.put_made-counted-requires
put_made-counted-requires c = (omega (arith, c.requires.verdict_bound.1), omega (arith, length_whole c.args.made c.args.verdict c.args.rounds c.args.values.now c.args.levels.now (ap not c.if-not-made.false), c.requires.verdict_bound.2))

pub put_atoms-listed-requires : goal.put_atoms-listed-requires
put_atoms-listed-requires c = let long = length_whole c.args.made c.args.verdict c.args.rounds c.args.values.now c.args.levels.now (ap not c.if-not-made.false) in
    let counted = c.put_made-counted.ensures in
    record {
      printable = c.requires.printable;
      rounds_le_max_atoms = (omega (arith, c.requires.verdict_bound.1), omega (arith, long, c.requires.verdict_bound.2, c.put_made-counted.ensures.answered, puts_length counted));
    }

pub put_verdict-requires-2 : goal.put_verdict-requires-2
put_verdict-requires-2 c = let long = length_whole c.args.made c.args.verdict c.args.rounds c.args.values.now c.args.levels.now (ap not c.if-not-made.false) in
    let counted = c.put_made-counted.ensures in
    let listed = c.put_atoms-listed.ensures in
    (c.requires.verdict_bound.0, omega (arith, long, c.requires.verdict_bound.2, c.put_made-counted.ensures.answered, puts_length counted, c.put_atoms-listed.ensures.answered, puts_length listed))

pub returns : goal.returns
returns c = page_whole _ _ _ _ _ (ap not c.if-not-made.false) c.put_made-counted.ensures c.put_atoms-listed.ensures c.put_verdict-2.ensures
