pub mod ExecuteLemmas
pub mod FormLemmas
pub mod ManyLemmas
pub mod PieceLemmas
pub mod RangeLemmas
pub mod StepLemmas
pub mod ValueLemmas
