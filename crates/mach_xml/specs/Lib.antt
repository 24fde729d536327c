pub mod Characters
pub mod Elements
pub mod Names
