pub mod Acts
pub mod Changes
pub mod Runs
pub mod Walks
pub mod Wide
