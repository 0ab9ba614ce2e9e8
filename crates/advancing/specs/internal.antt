-- What the functions inside promise each other and what their proofs speak of. Nobody has to believe it: no exported contract and no
-- theorem for users cites it.
pub mod Advancing
pub mod Founding
pub mod Noting
pub mod Fronts
pub mod Waves
pub mod Runs
