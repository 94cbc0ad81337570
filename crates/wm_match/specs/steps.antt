-- These are steps of the code and of its proofs: no public contract rests on them.
pub mod Checking
pub mod Directories
