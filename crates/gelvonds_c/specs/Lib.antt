pub mod Held
pub mod Calls
pub mod Making
pub mod Identities
pub mod Touching
pub mod Trying
pub mod Recording
pub mod Checking
