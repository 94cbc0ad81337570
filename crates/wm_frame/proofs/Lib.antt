pub mod AnswerLaws
pub mod Bounds
pub mod FrameLemmas
pub mod FramingLaws
pub mod NumberLaws
pub mod Readers
pub mod SignedBounds
