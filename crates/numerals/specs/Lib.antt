-- The class of a byte. `internal` has numbers at an offset of a text.
pub mod Bytes
pub mod internal
