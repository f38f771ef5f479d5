pub mod HalfLemmas
pub mod HeadLemmas
pub mod PartLemmas
pub mod RecordLemmas
