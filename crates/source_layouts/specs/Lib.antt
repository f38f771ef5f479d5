pub mod Bytes
pub mod Examples
pub mod LayoutLaws
pub mod LineNumbers
pub mod Pieces
pub mod Reading
pub mod WordSets
