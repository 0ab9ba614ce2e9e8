-- `checker::blocking::literal_blocks` meets its contract: its two tests are those of `blocks_read`.
use Rattle.checker.proofs.LevelReads.{blocks_read}
use Rattle.checker.proofs.blocking.literal_blocks.Goals as goal

pub returns : goal.returns
returns c = rw (blocks_read _ _ _ _ c.requires.1.value c.requires.2, ← c.atom_of-atom.ensures)
