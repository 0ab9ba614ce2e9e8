-- The definitions of this crate, and of those below it, that a sample computes through: `unfolding computes` opens them all.
-- Assumes nothing.
use Rattle.format.proofs.Computes.{computes as format-computes}
use Rattle.tables.proofs.Computes.{computes as tables-computes}

unfoldable pub computes : Unit {0}
unfolding format-computes tables-computes
computes = tt
