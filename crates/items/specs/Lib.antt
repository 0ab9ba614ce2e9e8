-- Literals and levels as they are stored. `internal` has literals, terms and claim pairs at an offset of a text.
pub mod Items
pub mod internal
