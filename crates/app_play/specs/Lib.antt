pub mod Play
pub mod steps
