pub mod Agreement
pub mod Cuts
pub mod Forms
pub mod Lines
pub mod Names
pub mod Parts
pub mod Remarks
