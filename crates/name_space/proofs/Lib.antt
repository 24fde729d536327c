pub mod Keys
pub mod Gathered
pub mod Tables
pub mod Placed
pub mod Linked
pub mod Spaces
pub mod Turns
