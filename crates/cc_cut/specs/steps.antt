pub mod Exits
pub mod Making
