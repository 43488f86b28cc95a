pub mod Calls
pub mod Looks
pub mod Run
pub mod Stored
