-- The definitions of this crate, and of those below it, that a sample computes through: `unfolding computes` opens them all.
-- Assumes nothing.
use Rattle.tables.proofs.Computes.{computes as tables-computes}
use Rattle.satisfaction.specs.Satisfied.{clause_holds, term_count, load_sum, load_holds, failing_clause, failing_load, clause_test, load_test}
use Rattle.satisfaction.specs.Satisfied.{satisfaction_tests}
use Rattle.satisfaction.specs.Tenths.{round_tenth, tenths, distance}

unfoldable opens_satisfied : Unit {0}
unfolding clause_holds term_count load_sum load_holds failing_clause failing_load clause_test load_test satisfaction_tests
opens_satisfied = tt

unfoldable opens_tenths : Unit {0}
unfolding round_tenth tenths distance
opens_tenths = tt

unfoldable pub computes : Unit {0}
unfolding tables-computes opens_satisfied opens_tenths
computes = tt
