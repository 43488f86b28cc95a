pub mod Compare
pub mod Kinds
pub mod Pairs
