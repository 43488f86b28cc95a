pub mod Closes
pub mod Since
pub mod Tells
