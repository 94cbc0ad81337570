pub mod Entries
pub mod Frames
pub mod Making
pub mod Numbers
