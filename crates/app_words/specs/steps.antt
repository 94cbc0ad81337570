pub mod ScriptReading
pub mod WordsReading
