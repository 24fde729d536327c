pub mod Between
pub mod Stages
pub mod Paying
pub mod Judging
pub mod Losing
pub mod Burying
pub mod Telling
