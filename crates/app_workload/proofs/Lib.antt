pub mod PlayingLemmas
pub mod ReducingLemmas
pub mod TellingLemmas
