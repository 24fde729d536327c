pub mod Sums
pub mod Found
pub mod Unused
pub mod Changing
