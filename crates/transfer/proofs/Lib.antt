pub mod Results
mod Left
pub mod Judged
mod Readied
mod Going
pub mod Transferring
mod Sparing
