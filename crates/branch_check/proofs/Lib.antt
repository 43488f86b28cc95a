pub mod Marks
pub mod Pairs
mod Prefixes
pub mod Rules
