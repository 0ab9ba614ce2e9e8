-- What the maker that follows the index comes to: `Theorems`, by `Stopping` of its verdict. `IndexedLaws` are those of its
-- steps; `Examples` computes one book, by `Computes`.
pub mod Theorems
pub mod Stopping
pub mod IndexedLaws
pub mod Computes
pub mod Examples
