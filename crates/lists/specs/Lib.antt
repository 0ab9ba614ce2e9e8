-- The lists of parts in a form, as code reads and stores them.
pub mod internal
