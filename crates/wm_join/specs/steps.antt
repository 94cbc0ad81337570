-- These are steps of the code and of its proofs: no public contract rests on them.
pub mod Numbers
pub mod Parts
pub mod Places
