-- `writing::book::put_claim` meets its contract: word, pairs and end of the line stand one behind the other.
use native.Mathlib.Omega.{arith}
use lib.ListN.{length, length-append}
use Rattle.printing.proofs.PutLaws.{puts_then}
use Rattle.writing.proofs.TextLaws.{parts_length, claim_parts}
use Rattle.writing.proofs.book.put_claim.Goals as goal

pub put-begun-requires : goal.put-begun-requires
put-begun-requires c = omega (arith, parts_length (claim_parts (length c.args.values.now) c.args.groups c.args.values.now c.args.levels.now))

pub put_line-requires-clause-room : goal.put_line-requires-clause-room
put_line-requires-clause-room c =
    rw length-append
    (omega (
      arith,
      parts_length (claim_parts (length c.args.values.now) c.args.groups c.args.values.now c.args.levels.now),
      c.requires.levels_in_bounds,
      c.put-begun.ensures.answered,
    ))

pub returns : goal.returns
returns c =
    rw (claim_parts (length c.args.values.now) c.args.groups c.args.values.now c.args.levels.now).is (puts_then c.put-begun.ensures c.put_line.ensures)
