pub mod FirstLemmas
pub mod GccLemmas
pub mod NumberLemmas
pub mod NvccEqualityLemmas
pub mod TakingLemmas
