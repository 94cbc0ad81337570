-- These files say what the contracts mean.
pub mod Libraries
