pub mod Cost
pub mod Cuts
pub mod Index
pub mod Law
pub mod Piece
pub mod steps
pub mod Way
