pub mod Cache
pub mod Known
pub mod NvccLine
pub mod Runs
