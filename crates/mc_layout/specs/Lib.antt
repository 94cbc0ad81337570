-- What the public contracts mean; under `steps` stands what only the code's own steps and the proofs speak of.
pub mod AnswerView
pub mod Paths
pub mod State
pub mod steps
