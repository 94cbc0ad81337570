mod CommandLemmas
mod FillingLemmas
mod JumpLemmas
mod KeptLemmas
pub mod ReadingLemmas
mod RunLemmas
