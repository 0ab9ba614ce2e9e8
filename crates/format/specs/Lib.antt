-- The format of book texts, in the order in which it is best read: forms as a printer, what a form says
-- part by part, the words that tell their kinds, and lines read backwards.
pub mod Forms
pub mod Views
pub mod Words
pub mod Parse
