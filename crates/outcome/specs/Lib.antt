-- What a text comes to: read, and then checked or evaluated.
pub mod Outcomes
pub mod internal
