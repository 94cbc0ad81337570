pub mod Halves
pub mod Helpers
pub mod Operation
pub mod Shifting
