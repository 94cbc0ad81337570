pub mod Division
pub mod Helpers
pub mod Law
pub mod Turn
