pub mod Lists
pub mod Answered
pub mod Replaying
pub mod Moves
pub mod Berths
pub mod Opening
