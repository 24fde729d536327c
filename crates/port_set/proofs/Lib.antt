pub mod Changed
pub mod Disbanding
