pub mod PlayLemmas
pub mod WhereLemmas
