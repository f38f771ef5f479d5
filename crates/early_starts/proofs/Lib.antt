pub mod LateNeedLemmas
pub mod LateOrderLemmas
pub mod OverlapLemmas
pub mod SplitLemmas
pub mod TextLemmas
