-- `founding::literal_founds` meets its contract: its tests are those of `founds`.
use Rattle.tables.specs.internal.Marks.{is_marked}
use Rattle.founding.specs.internal.Founding.{founds}
use Rattle.founding.proofs.literal_founds.Goals as goal

pub returns : goal.returns
unfolding founds is_marked
returns c = rw (← c.atom_of-atom.ensures, ← c.literal_false.ensures, ← c.is_negated.ensures)
