-- `Frame` says when a frame holds an activation's values, `Stored` what a state of a pack has of a store, `Callers` how
-- callers wait, `Stands` when a state stands for an activation, `Named` which items the piece of a name has, and `Law`
-- what the public laws say. `Uses` says which modules need the tables of bytes.
pub mod Callers
pub mod Frame
pub mod Law
pub mod Named
pub mod Stands
pub mod Stored
pub mod Uses
