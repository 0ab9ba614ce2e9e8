-- The definitions of this crate, and of those below it, that a sample computes through: `unfolding computes` opens them all.
-- Assumes nothing.
use Rattle.format.proofs.Computes.{computes as format-computes}
use Rattle.items.specs.Items.{code_of, literal_code, level_in, level_columns}

unfoldable opens_items : Unit {0}
unfolding code_of literal_code level_in level_columns
opens_items = tt

unfoldable pub computes : Unit {0}
unfolding format-computes opens_items
computes = tt
