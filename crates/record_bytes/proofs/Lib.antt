pub mod Loops
pub mod Named
pub mod Parts
pub mod Takes
