-- The definitions of this crate, and of those below it, that a sample computes through: `unfolding computes` opens them all.
-- Assumes nothing.
use Rattle.satisfaction.proofs.Computes.{computes as satisfaction-computes}
use Rattle.checker.specs.Check.{value_test, bad_level, unsupported, unblocked, level_test, support_test, blocking_test, level_tests}
use Rattle.checker.specs.Check.{claim_tests, check_tests, check_of}

unfoldable opens_check : Unit {0}
unfolding value_test bad_level unsupported unblocked level_test support_test blocking_test level_tests claim_tests check_tests check_of
opens_check = tt

unfoldable pub computes : Unit {0}
unfolding satisfaction-computes opens_check
computes = tt
