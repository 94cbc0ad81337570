pub mod MacroBody
pub mod OpenText
pub mod Straight
