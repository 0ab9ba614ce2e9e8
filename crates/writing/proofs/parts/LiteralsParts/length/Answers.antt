-- `writing::parts::LiteralsParts::length` meets its contract: the part is the literal.
use Rattle.writing.specs.internal.Parts.{literal_part}
use Rattle.writing.proofs.parts.LiteralsParts.length.Goals as goal

pub returns : goal.returns
unfolding literal_part
returns c = c.literal_length.ensures
