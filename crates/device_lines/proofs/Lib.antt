pub mod ReadingLemmas
pub mod RereadItems
pub mod RereadLaw
pub mod RereadOutputs
pub mod RereadPlaces
pub mod RereadWords
