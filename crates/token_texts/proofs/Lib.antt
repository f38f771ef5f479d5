pub mod KeyLemmas
pub mod LexingLemmas
pub mod LineLemmas
pub mod MoveLemmas
pub mod PlaceLemmas
pub mod RunLemmas
