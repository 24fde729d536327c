pub mod EntryLemmas
pub mod CheckLemmas
