-- What the public contracts mean. Below `steps` stand the shapes of lines that proofs on packs go by: a reader has to
-- believe none of them.
pub mod Chain
pub mod Command
pub mod Fill
pub mod Foreign
pub mod Form
pub mod Grammar
pub mod Layout
pub mod Lines
pub mod Pack
pub mod Packing
pub mod Pattern
pub mod Tidy
pub mod Value
pub mod View
pub mod Weight
pub mod Word
pub mod World
pub mod steps
