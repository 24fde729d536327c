pub mod Notices
pub mod Reading
