pub mod Flat
pub mod FlatTyping
pub mod Operands
pub mod Program
pub mod Ranges
pub mod Runs
pub mod Sound
pub mod Steps
