pub mod LineNumberLemmas
pub mod LinedLemmas
pub mod PieceLemmas
pub mod PlaceLemmas
pub mod ReadingLemmas
pub mod RemarkLemmas
pub mod RunLemmas
pub mod WordSetLemmas
