pub mod Carrying
pub mod Envelope
pub mod Kept
pub mod Queued
pub mod Reading
