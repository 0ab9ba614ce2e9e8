-- `tables::load_rows::load_count` meets its contract: the length over the width of a row.
use mathlib.Core.Path.{refl}
use Rattle.tables.specs.Loads.{load_count}
use Rattle.tables.proofs.load_rows.load_count.Goals as goal

pub returns : goal.returns
unfolding load_count
returns c = refl
