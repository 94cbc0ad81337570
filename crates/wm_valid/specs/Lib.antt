-- These files say what the public contracts mean. `Arrows` and `PlaceReading` compute what `Typing` says of code with
-- no jump in it. Those in `steps` are steps of the code and of its proofs: no public contract rests on them.
pub mod Arrows
pub mod Checked
pub mod Height
pub mod InRange
pub mod Place
pub mod PlaceReading
pub mod ScopeView
pub mod steps
pub mod Typing
pub mod Valid
pub mod ValidFault
