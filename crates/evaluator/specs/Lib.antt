-- The evaluator's answer.
pub mod Evaluate
pub mod internal
