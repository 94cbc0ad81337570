pub mod Emission
pub mod Heights
pub mod PartBuilder
pub mod PieceBuilder
pub mod Sizing
