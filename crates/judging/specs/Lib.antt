-- How a text is judged, in the order in which it is best read: the tables by name, the state that the lines before have reached, how a
-- line is judged in it, and which texts are accepted and what a refusal says. `internal` has the shape in which code has a form.
pub mod LentTables
pub mod States
pub mod Judging
pub mod Books
pub mod internal
