mod Kept
pub mod Lists
mod Named
pub mod Turns
mod Undone
