pub mod Operation
pub mod Pairs
