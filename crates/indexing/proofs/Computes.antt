-- The definitions of this crate, and of those below it, that a sample computes through: `unfolding computes` opens them all.
-- Assumes nothing.
use Rattle.tables.proofs.Computes.{computes as tables-computes}
use Rattle.sorting.proofs.Computes.{computes as sorting-computes}
use Rattle.indexing.specs.Index.{body_literal, by_literal, index_starts, index_entries, index_fits, index_test, index_tests, index_verdict, built_or}

unfoldable pub computes : Unit {0}
unfolding tables-computes sorting-computes body_literal by_literal index_starts index_entries index_fits index_test index_tests index_verdict built_or
computes = tt
