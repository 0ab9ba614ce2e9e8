-- Counts that fall as atoms are decided. All of it is internal: the exported calls promise what the theory says.
pub mod internal
