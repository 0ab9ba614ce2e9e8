-- The check of a claim.
pub mod Check
pub mod internal
