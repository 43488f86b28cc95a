pub mod Along
pub mod Comes
pub mod Exits
pub mod Fits
pub mod Loops
pub mod Moments
pub mod Sequence
