pub mod Counting
pub mod Digit
pub mod Helpers
pub mod Line
pub mod Operation
pub mod Shifting
