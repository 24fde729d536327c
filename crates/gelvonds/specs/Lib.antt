pub mod Steps
pub mod Results
pub mod Fits
