mod ViewExamples
pub mod Views
