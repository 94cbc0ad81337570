-- These files say what the public contracts mean. Those in `steps` are private steps of the code and of its proofs: no
-- public contract rests on them.
pub mod Law
pub mod Spot
pub mod steps
