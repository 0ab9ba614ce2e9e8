-- `Listing`: which lines a report has, and in which order. `ReportLaws`: a report is the page of the text's outcome, and a page of full size holds it.
pub mod Listing
pub mod ReportLaws
pub mod Computes
