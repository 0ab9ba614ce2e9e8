-- What the check comes to: `Theorems`, and `Readings` of its faults. The other files prove it.
pub mod Theorems
pub mod Readings
pub mod Positions
pub mod Claims
pub mod ClaimFaults
pub mod LevelReads
pub mod RowReads
pub mod Supported
pub mod DefinedMarks
pub mod GroupLevels
pub mod Computes
