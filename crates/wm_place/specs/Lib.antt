-- These files say what the public contracts mean. Those in `steps` are private steps of the code and of its proofs: no
-- public contract rests on them.
pub mod Kinds
pub mod Law
pub mod Place
pub mod Spot
pub mod SpotTyping
pub mod steps
pub mod Stop
pub mod Visit
