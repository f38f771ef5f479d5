pub mod Delivery
pub mod Messages
pub mod Operands
pub mod PlanText
pub mod PlanTextExamples
pub mod Start
