-- The definitions of this crate, and of those below it, that a sample computes through: `unfolding computes` opens them all.
-- Assumes nothing.
use Rattle.satisfaction.proofs.Computes.{computes as satisfaction-computes}
use Rattle.evaluator.specs.Evaluate.{bad_setting, setting_test, undecided_test, refusal_tests, model_tests, evaluated, stopped_or, evaluate_of}
use Rattle.evaluator.specs.Evaluate.{model_fault, is_made}

unfoldable opens_evaluate : Unit {0}
unfolding bad_setting setting_test undecided_test refusal_tests model_tests evaluated stopped_or evaluate_of model_fault is_made
opens_evaluate = tt

unfoldable pub computes : Unit {0}
unfolding satisfaction-computes opens_evaluate
computes = tt
