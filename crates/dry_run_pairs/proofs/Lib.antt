pub mod AgreementLemmas
pub mod CutLemmas
pub mod FormLemmas
pub mod NameLemmas
