-- What the public contracts say stands here. `Reading` has the readers that go over bytes from the left, which the code
-- follows: `IsFirst` names them for the crates above, and says no more by them than by what stands at the front. Those
-- in `steps` are steps of the code and of its proofs.
pub mod Cursor
pub mod Framing
pub mod Front
pub mod Line
pub mod Read
pub mod Reading
pub mod steps
