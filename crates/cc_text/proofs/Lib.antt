pub mod NamedItems
pub mod NamedLemmas
pub mod OnceLemmas
pub mod RoomLemmas
pub mod ShortItems
pub mod ShortSpots
pub mod ShortSteps
pub mod ShortTrees
