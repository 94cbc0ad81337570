pub mod Harmless
pub mod Law
pub mod Stops
pub mod steps
