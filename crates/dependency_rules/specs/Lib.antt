pub mod Asking
pub mod Markers
pub mod Orders
pub mod Rules
pub mod Warnings
