-- The tables of a book, in the order in which they are best read.
pub mod Limits
pub mod Faults
pub mod Rows
pub mod Loads
pub mod Values
pub mod Sound
pub mod internal
