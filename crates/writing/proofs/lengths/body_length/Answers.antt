-- `writing::lengths::body_length` meets its contract: the literals of the part that begins at `start`, and the end of the line.
use native.Mathlib.Omega.{arith}
use Rattle.writing.proofs.RowLaws.{body_joined}
use Rattle.writing.proofs.lengths.body_length.Goals as goal

pub returns : goal.returns
returns c = record {
  is = rw (body_joined c.args.literals.now c.args.start c.args.size c.requires.0) c.line_length.ensures.is;
  few = omega (arith, c.line_length.ensures.few, c.requires.1);
}
