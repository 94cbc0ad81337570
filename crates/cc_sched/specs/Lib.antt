pub mod Charge
pub mod Functions
pub mod Names
pub mod Pieces
pub mod Sched
pub mod Turn
pub mod steps
