-- Laws of tenths, clauses and load lines.
pub mod Tenths
pub mod LoadLaws
pub mod Satisfied
pub mod Positions
pub mod Computes
pub mod Worked
