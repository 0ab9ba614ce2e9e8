-- `writing::lengths::claim_length` meets its contract: the word, and the pairs and the end of the line behind it.
use native.Mathlib.Omega.{arith}
use lib.ListN.{length, length-append}
use Rattle.writing.proofs.TextLaws.{parts_length, claim_parts}
use Rattle.writing.proofs.lengths.claim_length.Goals as goal

pub returns : goal.returns
returns c =
    let ended = rw length-append at c.line_length.ensures.is in
    record {
      is = omega (arith, ended, parts_length (claim_parts (length c.args.values.now) c.args.groups c.args.values.now c.args.levels.now));
      few = omega (arith, c.line_length.ensures.few, c.requires.1);
    }
