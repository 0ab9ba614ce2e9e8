-- The definitions of this crate, and of those below it, that a sample computes through: `unfolding computes` opens them all.
-- Assumes nothing.
use Rattle.booktext.proofs.Computes.{computes as booktext-computes}
use Rattle.checker.proofs.Computes.{computes as checker-computes}
use Rattle.evaluator.proofs.Computes.{computes as evaluator-computes}
use Rattle.booktext.specs.UsedParts.{tables_of}
use Rattle.outcome.specs.Outcomes.{full_space, verdict_alone, unless_stopped, evaluation_outcome, book_outcome}
use Rattle.outcome.specs.Outcomes.{answer_outcome, outcome_of}

unfoldable opens_outcomes : Unit {0}
unfolding full_space verdict_alone unless_stopped evaluation_outcome tables_of book_outcome answer_outcome outcome_of
opens_outcomes = tt

unfoldable pub computes : Unit {0}
unfolding booktext-computes checker-computes evaluator-computes opens_outcomes
computes = tt
