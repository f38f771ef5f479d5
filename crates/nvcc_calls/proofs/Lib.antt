pub mod IdentityLemmas
pub mod KeepingLemmas
pub mod LawLemmas
pub mod OptionLemmas
