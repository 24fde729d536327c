pub mod Send
pub mod Telling
pub mod Sends
