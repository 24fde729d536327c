pub mod Blocks
pub mod ByGate
pub mod Gates
pub mod Tries
pub mod Waiting
