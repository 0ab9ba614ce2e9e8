-- `tables::rows::clause_count` meets its contract: the length over the width of a row.
use mathlib.Core.Path.{refl}
use Rattle.tables.specs.Rows.{clause_count}
use Rattle.tables.proofs.rows.clause_count.Goals as goal

pub returns : goal.returns
unfolding clause_count
returns c = refl
