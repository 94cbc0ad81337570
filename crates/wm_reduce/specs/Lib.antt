-- These files say what the public contracts mean. Those in `steps` are steps of the code and of its proofs: no public
-- contract rests on them.
pub mod Call
pub mod Shown
pub mod Soundness
pub mod State
pub mod steps
pub mod TermView
