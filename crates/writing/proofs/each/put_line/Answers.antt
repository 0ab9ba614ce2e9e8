-- `writing::each::put_line` meets its contract: the end of the line stands behind the parts.
use native.Mathlib.Omega.{arith}
use lib.ListN.{length-append}
use Rattle.printing.proofs.PutLaws.{puts_then}
use Rattle.writing.proofs.each.put_line.Goals as goal

pub put_each-listed-requires-clause-room : goal.put_each-listed-requires-clause-room
put_each-listed-requires-clause-room g c = let room = rw length-append at c.requires.room in omega (arith, room)

pub put-requires : goal.put-requires
put-requires g c = let room = rw length-append at c.requires.room in omega (arith, room, c.put_each-listed.ensures.answered)

pub returns : goal.returns
returns g c = puts_then c.put_each-listed.ensures c.put.ensures
