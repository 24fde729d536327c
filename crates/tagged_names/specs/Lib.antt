pub mod Names
pub mod Places
pub mod Counts
pub mod Sound
