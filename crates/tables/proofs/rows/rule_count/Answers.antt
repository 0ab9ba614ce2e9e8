-- `tables::rows::rule_count` meets its contract: the length over the width of a row.
use mathlib.Core.Path.{refl}
use Rattle.tables.specs.Rows.{rule_count}
use Rattle.tables.proofs.rows.rule_count.Goals as goal

pub returns : goal.returns
unfolding rule_count
returns c = refl
