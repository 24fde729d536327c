pub mod Recording
pub mod Room
