pub mod LateFiles
pub mod LatePlans
pub mod LateTexts
pub mod LateWords
pub mod Overlaps
pub mod Splits
pub mod StubTexts
