pub mod WhereLemmas
