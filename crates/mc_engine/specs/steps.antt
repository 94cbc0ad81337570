pub mod Chaining
pub mod Commands
pub mod Fillings
pub mod Kept
