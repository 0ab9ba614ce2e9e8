-- `indexing::index_fits` meets its contract: its tests are those of the definition.
use Rattle.indexing.specs.Index.{index_fits}
use Rattle.indexing.proofs.index_fits.Goals as goal

pub returns : goal.returns
unfolding index_fits
returns c = rw c.rules_total-total.ensures.0
