-- `FoundedMarks` says whom the marks tell, with `GrowingMarks` on how they grow; `FoundingLaws` has the laws of the code's loops.
pub mod FoundedMarks
pub mod GrowingMarks
pub mod FoundingLaws
