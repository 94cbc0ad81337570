-- What the public contracts mean; under `steps` stands what only the code's own steps and the proofs speak of.
pub mod Answers
pub mod Counting
pub mod Entry
pub mod Making
pub mod Own
pub mod Played
pub mod Standing
pub mod State
pub mod steps
