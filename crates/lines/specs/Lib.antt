-- The walk over the lines of a text.
pub mod internal
