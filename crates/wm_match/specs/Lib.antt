-- These files say what the public contracts mean.
pub mod Binds
pub mod Cause
pub mod Closed
pub mod FaultLine
pub mod Lists
pub mod Program
pub mod Space
pub mod steps
