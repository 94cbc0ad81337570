pub mod AlikeLemmas
pub mod TellLemmas
