-- What the public contracts mean; `steps` holds readers from the left, which the code follows and proofs show to read
-- what the forms of the grammar read.
pub mod FillView
pub mod Parse
pub mod steps
