pub mod View
pub mod Moved
pub mod Names
pub mod Came
pub mod Went
pub mod Found
pub mod Emptied
