pub mod Law
pub mod Tails
pub mod steps
