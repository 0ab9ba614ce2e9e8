-- Laws of bytes, of values that stop growing, and of numbers at an offset.
pub mod ByteLaws
pub mod CappedLaws
pub mod OffsetLaws
pub mod SignedLaws
