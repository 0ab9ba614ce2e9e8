-- What the round trips of the reader and the writer keep.
pub mod RoundTrips
