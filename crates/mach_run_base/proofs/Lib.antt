mod BlockTexts
pub mod HistoryLemmas
pub mod LineLemmas
pub mod OutputLemmas
pub mod ScriptLemmas
pub mod OfScript
