-- Which operands an operation takes.
pub mod Takes
