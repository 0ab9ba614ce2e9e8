-- Which texts are accepted and how the others are refused: `Accepted` and `Refusals` say it, and `OtherBytes` says
-- which bytes no line may hold. The other files prove these, and the laws of the code's functions.
pub mod Accepted
pub mod AddedLaws
pub mod Refusals
pub mod OtherBytes
pub mod Walking
pub mod LineLaws
pub mod Counts
pub mod Sequences
pub mod TableLaws
pub mod StateLaws
pub mod LimitLaws
pub mod ShapeLaws
pub mod Computes
