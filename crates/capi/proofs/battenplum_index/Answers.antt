-- `capi::battenplum_index` meets its contract: it packs the verdict of the index, whose position is small.
use mathlib.Core.Path.{ap, ◌∙◌}
use Rattle.indexing.proofs.Theorems.{index_position}
use Rattle.capi.specs.Packing.{packed}
use Rattle.capi.proofs.battenplum_index.Goals as goal

pub pack-requires : goal.pack-requires
pack-requires c = rw c.index.ensures.answered (index_position _ _ _)

pub returns : goal.returns
returns c = record { answered = c.pack.ensures ∙ ap packed c.index.ensures.answered; starts_built = c.index.ensures.starts_built; entries_built = c.index.ensures.entries_built }
