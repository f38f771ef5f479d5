pub mod Laws
pub mod PlacedCommands
pub mod PlacedWords
