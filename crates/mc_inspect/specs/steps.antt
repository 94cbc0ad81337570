pub mod Found
pub mod Growings
pub mod Openings
pub mod Placers
pub mod Placings
pub mod Read
pub mod Turns
pub mod Ways
