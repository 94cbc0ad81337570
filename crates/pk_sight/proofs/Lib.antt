pub mod IntLemmas
pub mod RunningParts
pub mod ShownLemmas
pub mod TableLemmas
