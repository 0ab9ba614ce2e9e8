-- Well-founded definitions, in the order in which they are best read.
pub mod Lists
pub mod Literals
pub mod Definitions
pub mod Unfounded
pub mod Stages
pub mod Levels
pub mod internal
