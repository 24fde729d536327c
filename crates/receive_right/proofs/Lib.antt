pub mod Holding
pub mod Status
