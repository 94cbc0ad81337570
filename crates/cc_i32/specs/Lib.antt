pub mod Division
pub mod Helpers
pub mod Light
pub mod Operation
