-- What the contract of `top` means stands in these files. `steps` has the private steps of code and proofs.
pub mod Source
pub mod Refusal
pub mod Outside
pub mod Jobs
pub mod Joining
pub mod Sharing
pub mod Workload
pub mod Top
pub mod Complete
pub mod steps
