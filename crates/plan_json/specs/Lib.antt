pub mod Json
pub mod JsonExamples
pub mod OneToOne
pub mod Values
