pub mod Halves
pub mod Heads
pub mod Needs
pub mod PartLaws
pub mod Parts
pub mod Tasks
