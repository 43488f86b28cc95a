pub mod Gathered
pub mod Kinds
pub mod Shown
pub mod Walks
