pub mod Numbers
pub mod Marked
pub mod Shared
pub mod Places
