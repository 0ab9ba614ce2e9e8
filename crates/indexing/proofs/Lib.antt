-- What the index comes to: `Theorems`, by `IndexLaws` of the verdict and of what is left, and by the laws of `sorting`. `CountLaws` and `PutLaws` are those of the
-- loops that build it, `BuildLaws` of its steps; `Examples` computes the index of one book, by `Computes`.
pub mod Theorems
pub mod IndexLaws
pub mod CountLaws
pub mod PutLaws
pub mod BuildLaws
pub mod Computes
pub mod Examples
