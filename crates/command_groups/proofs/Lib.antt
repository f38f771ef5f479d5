pub mod FateLemmas
pub mod GroupLemmas
pub mod LabelLemmas
pub mod MergeLemmas
pub mod OpenerLemmas
pub mod PlanLemmas
pub mod PlanNeedLemmas
pub mod WordLemmas
