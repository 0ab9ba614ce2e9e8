-- The maker that follows the index. What its functions promise each other is inside.
pub mod EvaluateIndexed
pub mod internal
