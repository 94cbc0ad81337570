pub mod Checking
pub mod Found
pub mod Names
pub mod Searching
