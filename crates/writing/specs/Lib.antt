-- The writer of book texts, in the order in which it is best read: the forms of tables and a claim, and what `write` answers and leaves.
pub mod BookForms
pub mod Writing
pub mod internal
