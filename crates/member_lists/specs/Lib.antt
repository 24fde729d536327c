pub mod Lists
pub mod Chains
pub mod Places
pub mod Values
pub mod Fields
pub mod Both
pub mod Ended
