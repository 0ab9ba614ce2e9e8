-- `tables::row_faults::term_is_bad` meets its contract: its tests are those of the definition.
use Rattle.std.proofs.Common.{rules}
use Rattle.tables.specs.Sound.{bad_term}
use Rattle.tables.proofs.row_faults.term_is_bad.Goals as goal

pub returns : goal.returns
unfolding bad_term
returns c = search rules
