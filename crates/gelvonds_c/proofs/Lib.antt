mod Called
mod Handles
mod Lists
