pub mod Describes
pub mod Fields
