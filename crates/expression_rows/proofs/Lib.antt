pub mod Levels
pub mod Unaries
pub mod Members
mod Negations
mod Commas
