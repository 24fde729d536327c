pub mod Requests
pub mod Kept
pub mod Tables
