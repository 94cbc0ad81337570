pub mod JobLemmas
pub mod OneLemmas
pub mod OutcomeLemmas
pub mod TellLemmas
