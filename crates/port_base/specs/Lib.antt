pub mod Attributes
pub mod Holders
pub mod Turns
pub mod Ready
pub mod Records
pub mod Memberships
