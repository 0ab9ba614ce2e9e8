-- `page::put_made` meets its contract: the parts of the line stand one behind the other.
use native.Mathlib.Omega.{arith}
use Rattle.printing.proofs.PutLaws.{puts_then, puts_length}
use Rattle.page.specs.Pages.{made_line}
use Rattle.page.proofs.Lengths.{length_made_line}
use Rattle.page.proofs.put_made.Goals as goal

pub put-begun-requires : goal.put-begun-requires
put-begun-requires c = omega (arith, length_made_line c.args.rounds, c.requires.1)

pub put_decimal-counted-requires : goal.put_decimal-counted-requires
put_decimal-counted-requires c = let begun = c.put-begun.ensures in
    (omega (arith, c.requires.0), omega (arith, length_made_line c.args.rounds, c.requires.1, c.put-begun.ensures.answered, puts_length begun))

pub put-requires : goal.put-requires
put-requires c = let begun = c.put-begun.ensures in
    let counted = c.put_decimal-counted.ensures in
    omega (arith, length_made_line c.args.rounds, c.requires.1, c.put-begun.ensures.answered, puts_length begun, c.put_decimal-counted.ensures.answered, puts_length counted)

pub returns : goal.returns
unfolding made_line
returns c = puts_then c.put-begun.ensures (puts_then c.put_decimal-counted.ensures c.put.ensures)
