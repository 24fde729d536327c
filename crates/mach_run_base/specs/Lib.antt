pub mod Jobs
pub mod Output
pub mod Scripts
pub mod Verdicts
pub mod Callers
pub mod Enrolling
