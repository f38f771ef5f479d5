pub mod ClosedLemmas
pub mod HistoryLemmas
pub mod ListLemmas
pub mod NeededLemmas
pub mod PlanLemmas
pub mod ProductLemmas
pub mod WholeLemmas
pub mod WithheldLemmas
