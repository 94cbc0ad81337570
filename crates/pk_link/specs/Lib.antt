-- `Functions` says which functions and which index the pack of a module has, and `Linked` what the contract of `link`
-- means.
pub mod Functions
pub mod Linked
pub mod steps
