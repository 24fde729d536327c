pub mod Keeping
pub mod Sources
pub mod Stepping
pub mod Places
pub mod Endings
pub mod Noting
