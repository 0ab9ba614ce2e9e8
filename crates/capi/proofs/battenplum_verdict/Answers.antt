-- `capi::battenplum_verdict` meets its contract: it packs the outcome's verdict, whose position is small.
use mathlib.Core.Path.{ap, ◌∙◌}
use Rattle.outcome.proofs.Bounds.{outcome_position}
use Rattle.capi.specs.Packing.{packed}
use Rattle.capi.proofs.battenplum_verdict.Goals as goal

pub pack-requires : goal.pack-requires
pack-requires c = rw c.outcome_of-outcome.ensures.verdict_is (outcome_position _)

pub returns : goal.returns
returns c = c.pack.ensures ∙ ap packed c.outcome_of-outcome.ensures.verdict_is
