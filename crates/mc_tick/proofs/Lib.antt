pub mod ArgumentLemmas
pub mod NameLemmas
pub mod PlayLemmas
