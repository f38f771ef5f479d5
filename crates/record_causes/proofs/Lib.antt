pub mod CauseLemmas
pub mod PlaceLemmas
