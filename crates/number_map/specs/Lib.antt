pub mod Maps
pub mod Kept
pub mod Lends
pub mod Halves
