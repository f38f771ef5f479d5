pub mod Classes
pub mod Examples
pub mod Lexing
pub mod LineWords
pub mod Normal
pub mod TokenLaws
