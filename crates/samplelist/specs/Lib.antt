-- The paper's sample calls.
pub mod Samples
