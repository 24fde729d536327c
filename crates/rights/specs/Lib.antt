pub mod Counts
pub mod Ledger
pub mod Counted
pub mod Unused
