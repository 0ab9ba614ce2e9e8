-- What rules wait for. How the rounds that follow the index go is inside.
pub mod Waiting
pub mod internal
