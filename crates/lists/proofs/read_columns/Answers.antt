-- `lists::read_columns` meets its contract: the columns of the groups so far stand one behind the other.
use mathlib.Core.Path.{◌≡◌}
use native.Mathlib.Omega.{arith}
use Rattle.lists.proofs.PairLaws.{columns_start, columns_turn}
use Rattle.lists.proofs.read_columns.Goals as goal

pub loop-group-init : goal.loop-group-init
loop-group-init c = columns_start _ _ _

pub loop-group-preserved : goal.loop-group-preserved
loop-group-preserved c = columns_turn _ _ _ _ _ _ c.loop-group.invariant c.read_column.ensures

pub returns : goal.returns
returns c =
    let over : c.loop-group.group ≡ c.args.groups = omega (arith, c.loop-group.auto.group-end c.requires.le_groups.0, c.loop-group-test.false) in
    rw over at c.loop-group.invariant
