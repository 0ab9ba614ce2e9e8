-- What forms add to the tables, in the order in which it is best read: what tables hold, the entries of forms, and what they mean.
pub mod Contents
pub mod Entries
pub mod Decoded
pub mod internal
