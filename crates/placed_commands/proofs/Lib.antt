pub mod CutLemmas
pub mod PlaceLemmas
pub mod WordLemmas
