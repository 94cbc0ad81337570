pub mod Seen
pub mod Program
pub mod Spelling
pub mod Lawful
pub mod Runs
pub mod Packs
pub mod Turns
pub mod Holding
