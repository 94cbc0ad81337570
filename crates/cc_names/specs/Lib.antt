pub mod Law
pub mod Names
pub mod Same
pub mod steps
