-- The report of a text: its outcome as a printed page.
pub mod Reports
