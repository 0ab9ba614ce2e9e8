-- Laws of items at an offset: what each step of reading one comes to, and the steps in a row; a loop over parts, and over the levels of a pair.
pub mod ItemLaws
pub mod PartLaws
pub mod ItemChains
pub mod LevelLaws
pub mod Computes
