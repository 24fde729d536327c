pub mod Blocks
pub mod Calls
pub mod Numbers
pub mod Replies
pub mod Text
pub mod Words
