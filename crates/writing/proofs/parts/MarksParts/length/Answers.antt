-- `writing::parts::MarksParts::length` meets its contract: an atom that is not marked counts nothing.
use Rattle.writing.proofs.LengthLaws.{mark_counts}
use Rattle.writing.proofs.parts.MarksParts.length.Goals as goal

pub returns : goal.returns
returns c = mark_counts _ _ _ c.width.ensures
