-- The words of the guarantees.
pub mod Settings
