-- The page: `Order` says that it lists every atom once and in order, by the laws of `Keys`, and `Lengths` how long it is. `Examples` computes an
-- order, by `Computes`. The other files serve the functions.
pub mod Order
pub mod Lengths
pub mod Keys
pub mod OrderingLaws
pub mod Listing
pub mod Computes
pub mod Examples
