pub mod Codes
pub mod Facts
pub mod Needs
pub mod Tables
