pub mod Histories
pub mod Levels
pub mod Checks
