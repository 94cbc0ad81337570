-- What the public contracts mean. Below `steps` stand private steps of code and proofs, which no reader has to believe:
-- that the reader of `steps.Reading` gives what `Spelling` says is told by the law `reader_answers_rightly`.
pub mod Beginning
pub mod Change
pub mod Finite
pub mod Path
pub mod ReadView
pub mod Shape
pub mod Spelling
pub mod Tree
pub mod Value
pub mod View
pub mod Word
pub mod steps
