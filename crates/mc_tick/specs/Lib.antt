-- What the public contracts mean; under `steps` stands what only the code's own steps and the proofs speak of.
pub mod Answers
pub mod Fresh
pub mod Naming
pub mod Packs
pub mod PlayView
pub mod State
pub mod StateView
pub mod steps
