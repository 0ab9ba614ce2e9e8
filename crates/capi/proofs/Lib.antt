-- `Unpacking` says what the packed answers tell, `ForC` that the calls are those of `read`, `write`, `index` and `evaluate_indexed`; `PackLaws` serves the functions.
pub mod Unpacking
pub mod ForC
pub mod PackLaws
