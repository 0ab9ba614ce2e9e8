-- Laws of entries stored, of lists of parts, and of lists of literals, of terms, of pairs, and of named atoms.
pub mod StoreLaws
pub mod ListLaws
pub mod TermLaws
pub mod PairLaws
pub mod AtomLaws
