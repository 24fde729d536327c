pub mod Sending
pub mod Wanting
pub mod Carrying
