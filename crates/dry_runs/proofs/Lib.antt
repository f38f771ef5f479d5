pub mod ExpansionLemmas
pub mod ParsedLemmas
pub mod PlaceLemmas
pub mod PlainWordLemmas
mod ReadingLemmas
mod SnapshotLemmas
