pub mod ActionLemmas
pub mod ImageLemmas
pub mod KeyLemmas
pub mod MarkLemmas
pub mod WordLemmas
