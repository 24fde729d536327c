pub mod Codes
pub mod Answers
pub mod MessageCalls
pub mod Profiles
pub mod Texts
