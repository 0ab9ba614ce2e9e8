-- `writing::parts::MarksParts::put` meets its contract: an atom that is marked stands behind a space, and of another nothing is put.
use mathlib.Core.Path.{ap}
use native.Mathlib.Omega.{arith}
use lib.ListN.{length}
use Rattle.printing.proofs.PutLaws.{puts_none, puts_then}
use Rattle.writing.proofs.PartLaws.{mark_here, mark_other}
use Rattle.writing.proofs.parts.MarksParts.put.Goals as goal

pub returns-then-self-atom-ne1 : goal.returns-then-self-atom-ne1
returns-then-self-atom-ne1 c = rw (mark_other _ _ c.if-self-atom-ne1.true) puts_none

pub put-begun-requires : goal.put-begun-requires
put-begun-requires c = omega (arith, ap length (mark_here c.args.self.now.marks.now c.args.atom c.if-self-atom-ne1.false))

pub put_decimal-requires : goal.put_decimal-requires
put_decimal-requires c = (c.requires.inside.1, omega (arith, ap length (mark_here c.args.self.now.marks.now c.args.atom c.if-self-atom-ne1.false), c.put-begun.ensures.answered))

pub returns : goal.returns
returns c = rw (mark_here _ _ c.if-self-atom-ne1.false) (puts_then c.put-begun.ensures c.put_decimal.ensures)
