-- When clauses and load lines hold, in the order in which it is best read.
pub mod Tenths
pub mod Satisfied
pub mod internal
