-- `writing::lengths::line_of_terms_length` meets its contract: the terms of the part that begins at `start`, and the end of the line.
use native.Mathlib.Omega.{arith}
use Rattle.writing.proofs.RowLaws.{terms_joined}
use Rattle.writing.proofs.lengths.line_of_terms_length.Goals as goal

pub returns : goal.returns
returns c = record {
  is = rw (terms_joined c.args.load_literals.now c.args.minutes.now c.args.start c.args.size) c.line_length.ensures.is;
  few = omega (arith, c.line_length.ensures.few, c.requires.2);
}
