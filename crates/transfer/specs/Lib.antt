pub mod Transfer
pub mod Room
pub mod Wanted
