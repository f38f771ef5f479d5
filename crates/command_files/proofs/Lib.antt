pub mod NeedLemmas
pub mod NeededLemmas
pub mod OrderLemmas
pub mod OrderNeedLemmas
pub mod OverlapLemmas
pub mod PlanOrderLemmas
pub mod TouchedLemmas
