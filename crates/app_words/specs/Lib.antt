-- What the public contracts mean; under `steps` stands what only the code's own steps and the proofs speak of.
pub mod Act
pub mod Arguments
pub mod Lines
pub mod Report
pub mod Script
pub mod SharedReport
pub mod SharedScript
pub mod View
pub mod WhereReport
pub mod WhereScript
pub mod Words
pub mod Workload
pub mod steps
