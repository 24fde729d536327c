pub mod Names
pub mod References
pub mod Sets
pub mod Wanted
pub mod Gathered
