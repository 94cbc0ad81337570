pub mod Seen
pub mod Values
pub mod Executing
pub mod Plain
pub mod Task
pub mod Fitting
