pub mod FileLemmas
pub mod RunningLemmas
pub mod ScheduleLemmas
pub mod ShadowLawLemmas
pub mod ShadowLemmas
pub mod ShadowRankLemmas
