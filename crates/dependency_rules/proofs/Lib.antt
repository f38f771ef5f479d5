pub mod MarkLemmas
pub mod NoteLemmas
