pub mod Moved
pub mod Settled
pub mod Parted
