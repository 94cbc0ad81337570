pub mod Many
pub mod Paths
pub mod Pieces
pub mod Range
