pub mod Elements
pub mod Short
pub mod Taken
