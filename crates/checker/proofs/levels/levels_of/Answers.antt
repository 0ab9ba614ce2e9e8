-- `checker::levels::levels_of` meets its contract: the part is as long as there are atoms.
use Prim.Native.Nat.{◌+◌, ◌*◌, ◌-◌}
use mathlib.Core.Path.{◌≡◌}
use native.Mathlib.Omega.{arith}
use Rattle.tables.specs.Sound.{group_levels}
use Rattle.checker.proofs.levels.levels_of.Goals as goal

pub returns : goal.returns
unfolding group_levels
returns c = let e : c.args.group * c.args.atoms + c.args.atoms - c.args.group * c.args.atoms ≡ c.args.atoms = omega arith in
    rw e
