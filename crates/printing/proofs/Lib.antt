-- What is put at an offset: `PutLaws` of bytes behind bytes, `DecimalLaws` and `SignedLaws` of numbers, `Widths` of how many digits there
-- are, `Joining` of parts put one after the other.
pub mod PutLaws
pub mod DecimalLaws
pub mod Widths
pub mod SignedLaws
pub mod Joining
pub mod Computes
