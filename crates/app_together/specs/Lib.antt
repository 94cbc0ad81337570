-- What only the code's own steps and the proofs speak of; the public contract speaks of `app_words`' report.
pub mod steps
