-- What the writer comes to: `Theorems`. The other files prove it: `PartLaws` of the parts of a line and of lines joined one after the
-- other, `RowLaws` of the lines of rows, `TextLaws` of whole lines and of the text by its parts,
-- `LengthLaws` of how many bytes these have, `Ready` of tables that can be counted and put, `WriteLaws` of the verdict and of what is
-- left; `Examples` computes the text of one book, by `Computes`.
pub mod Theorems
pub mod PartLaws
pub mod RowLaws
pub mod TextLaws
pub mod LengthLaws
pub mod Ready
pub mod WriteLaws
pub mod Computes
pub mod Examples
