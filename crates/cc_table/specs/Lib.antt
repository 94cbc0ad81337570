-- `Look` says how a number is looked up in a table, `Target` how the function is found that an element of the module's
-- table has, and `Law` what both leave.
pub mod Helpers
pub mod Law
pub mod Look
pub mod Target
