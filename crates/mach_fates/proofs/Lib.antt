mod Counting
mod Finding
mod Growing
mod Joining
mod Naming
mod Stepping
mod Telling
mod Visiting
