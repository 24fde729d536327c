pub mod History
pub mod Replays
pub mod Views
pub mod Table
pub mod Berth
pub mod Fits
