pub mod Playing
pub mod Reducing
pub mod Telling
