-- `Cases` says which cases of standing the name of a piece leaves, and `Law` that a state stands for one activation.
pub mod Cases
pub mod Law
