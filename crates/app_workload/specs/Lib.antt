-- `Reduced` says what comes of a module's reduction, and `Told` what is told of a workload. `steps` has what contracts
-- of private functions speak of.
pub mod Reduced
pub mod steps
pub mod Told
