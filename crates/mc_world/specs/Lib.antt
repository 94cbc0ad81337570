-- What the public contracts mean; under `steps` stands what only the code's own steps and the proofs speak of.
pub mod NamedMap
pub mod Placed
pub mod Places
pub mod TextMap
pub mod WorldView
pub mod steps
