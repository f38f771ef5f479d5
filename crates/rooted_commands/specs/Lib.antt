pub mod Checkouts
pub mod Commands
pub mod Laws
pub mod MarkerExamples
pub mod Markers
pub mod OwnTexts
pub mod Paths
pub mod WrittenNames
