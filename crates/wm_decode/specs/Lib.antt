-- What the public contracts say stands here. `steps` has the readers that go over bytes from the left, and what was
-- read so far: the code follows them, and the proofs join them to the grammar of wm_ast.
pub mod Decoding
pub mod FaultLine
pub mod steps
