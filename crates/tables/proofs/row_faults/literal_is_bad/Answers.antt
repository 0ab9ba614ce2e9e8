-- `tables::row_faults::literal_is_bad` meets its contract: a literal of 2N or above has an atom of N or above.
use Rattle.tables.specs.Sound.{bad_literal}
use Rattle.tables.proofs.RowFaults.{literal_beyond}
use Rattle.tables.proofs.row_faults.literal_is_bad.Goals as goal

pub returns : goal.returns
unfolding bad_literal
returns c = rw (c.atom_of.ensures, literal_beyond)
