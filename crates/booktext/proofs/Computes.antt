-- The definitions of this crate, and of those below it, that a sample computes through: `unfolding computes` opens them all.
-- Assumes nothing.
use Rattle.forms.proofs.Computes.{computes as forms-computes}
use Rattle.booktext.specs.Answers.{state_of, answer_of}

unfoldable opens_answers : Unit {0}
unfolding state_of answer_of
opens_answers = tt

unfoldable pub computes : Unit {0}
unfolding forms-computes opens_answers
computes = tt
