pub mod Numbers
pub mod Bodies
pub mod Fits
