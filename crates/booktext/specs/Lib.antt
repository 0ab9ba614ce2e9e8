-- The reader of book texts: what it answers, what it leaves in the lent tables, which parts of them are used, and what of that are marks, values and levels.
pub mod Answers
pub mod UsedParts
pub mod GivenEntries
