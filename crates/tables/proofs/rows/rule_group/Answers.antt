-- `tables::rows::rule_group` meets its contract: every row is of group 0.
use mathlib.Core.Path.{refl}
use native.Mathlib.Omega.{arith}
use Rattle.tables.specs.Rows.{rule_group}
use Rattle.tables.proofs.rows.rule_group.Goals as goal

pub returns : goal.returns
unfolding rule_group
returns c = record { is = refl; small = omega arith }
