pub mod Choice
pub mod Compare
pub mod Divide
pub mod Law
pub mod Mask
pub mod Operation
pub mod Shift
pub mod Work
