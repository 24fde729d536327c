pub mod Entry
pub mod Names
pub mod Plain
pub mod Table
pub mod Ports
pub mod Sound
