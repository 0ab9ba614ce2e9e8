-- `writing::parts::LiteralsParts::put` meets its contract: the part is the literal.
use native.Mathlib.Omega.{arith}
use Rattle.writing.specs.internal.Parts.{literal_part}
use Rattle.writing.proofs.parts.LiteralsParts.put.Goals as goal

pub put_literal-requires : goal.put_literal-requires
unfolding literal_part
put_literal-requires c = omega (arith, c.requires.room)

pub returns : goal.returns
unfolding literal_part
returns c = c.put_literal.ensures
