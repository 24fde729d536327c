pub mod Bits
pub mod Page
pub mod Pages
pub mod High
pub mod Sound
pub mod Lends
pub mod PageLends
