pub mod ItemLemmas
pub mod RecordLemmas
pub mod Sorted
pub mod WordsLemmas
