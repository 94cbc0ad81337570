pub mod CallingLemmas
mod Examples
pub mod NumberLemmas
pub mod ReportLemmas
pub mod ScriptLemmas
pub mod SharedLemmas
pub mod WhereLemmas
pub mod WhereReportLemmas
pub mod WordsLemmas
