pub mod ReadBackLemmas
pub mod ReadGraphLemmas
pub mod TextLemmas
