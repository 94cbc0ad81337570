pub mod Bound
pub mod Law
pub mod Lean
