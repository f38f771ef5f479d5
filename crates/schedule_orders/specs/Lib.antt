pub mod Closed
pub mod Examples
pub mod Histories
pub mod Needed
pub mod Plans
pub mod Products
pub mod Withheld
