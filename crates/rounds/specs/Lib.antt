-- Rounds from stage to stage. All of it is internal: the exported calls promise what the theory says.
pub mod internal
