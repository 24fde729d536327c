pub mod Changing
pub mod Received
