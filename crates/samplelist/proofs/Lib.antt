-- The paper's samples, proved, and what the functions that run them rest on.
pub mod Samples
mod SampleLaws
