-- `printing::put` meets its contract: the part of the buffer that the bytes fill is theirs.
use Rattle.printing.proofs.PutLaws.{puts_copied}
use Rattle.printing.proofs.put.Goals as goal

pub returns : goal.returns
returns c = puts_copied _ _ _ _ c.requires c.copy_from_slice.ensures.after
