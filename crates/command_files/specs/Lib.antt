pub mod CommandFiles
pub mod Files
pub mod Numbered
pub mod Order
pub mod Overlap
pub mod PlanNeeds
pub mod PlanOrders
pub mod Touched
