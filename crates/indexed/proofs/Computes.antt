-- The definitions of this crate, and of those below it, that a sample computes through: `unfolding computes` opens them all.
-- Assumes nothing.
use Rattle.evaluator.proofs.Computes.{computes as evaluator-computes}
use Rattle.indexing.proofs.Computes.{computes as indexing-computes}
use Rattle.advancing.specs.Waiting.{waiting, waiting_counts}
use Rattle.indexed.specs.EvaluateIndexed.{sized_slices, indexed_tests, indexed_stop, evaluate_indexed_of, model_counts}

unfoldable pub computes : Unit {0}
unfolding evaluator-computes indexing-computes waiting waiting_counts sized_slices indexed_tests indexed_stop evaluate_indexed_of model_counts
computes = tt
