-- What the public contracts mean; under `steps` stands what only the code's own steps and the proofs speak of.
pub mod Inspect
pub mod steps
