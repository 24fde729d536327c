pub mod Entries
pub mod Trees
pub mod Changes
pub mod Rows
pub mod Planted
pub mod View
