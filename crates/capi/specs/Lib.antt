-- What the C calls answer.
pub mod Packing
pub mod internal
