-- `capi::battenplum_check` meets its contract: it packs the check's verdict, whose position is small.
use mathlib.Core.Path.{ap, ◌∙◌}
use Rattle.checker.proofs.Positions.{check_position}
use Rattle.capi.specs.Packing.{packed}
use Rattle.capi.proofs.battenplum_check.Goals as goal

pub pack-requires : goal.pack-requires
pack-requires c = rw c.check.ensures (check_position _ _ _)

pub returns : goal.returns
returns c = c.pack.ensures ∙ ap packed c.check.ensures
