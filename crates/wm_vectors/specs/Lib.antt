-- `Vectors` says how long the vectors of a module are.
pub mod Vectors
