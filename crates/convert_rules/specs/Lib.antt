pub mod Digits
pub mod Prims
