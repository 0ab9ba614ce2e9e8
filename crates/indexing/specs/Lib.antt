-- Where a literal occurs. What the functions that build the index rely on is inside.
pub mod Index
pub mod internal
