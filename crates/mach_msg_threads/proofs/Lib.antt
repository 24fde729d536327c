pub mod Bounded
pub mod Rows
pub mod Callers
pub mod Heard
pub mod Pausing
