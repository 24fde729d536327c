mod Ready
mod Receiving
mod Unused
mod Ending
mod Freed
mod Stepping
pub mod Taking
mod Keeping
mod Sparing
mod Listed
mod Bounding
mod Lacking
mod Staying
mod Chosen
mod Passing
mod Sourced
mod InTurn
pub mod Limited
pub mod Named
mod Alone
mod Covered
mod Pairing
mod TooLong
mod Walked
mod Given
mod Along
mod LostRight
mod Changed
