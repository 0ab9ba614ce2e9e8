-- `writing::parts::literal_length` meets its contract: a bracket and `not` more for a negated one.
use Rattle.writing.proofs.LengthLaws.{literal_counts_lem}
use Rattle.writing.proofs.parts.literal_length.Goals as goal

pub returns : goal.returns
returns c = literal_counts_lem _ _ c.width.ensures
