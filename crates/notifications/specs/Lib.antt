pub mod SoFar
pub mod Destroying
pub mod Ending
pub mod Requesting
pub mod Room
pub mod Putting
pub mod Wanted
