pub mod Again
pub mod Limits
pub mod Reading
pub mod Spelling
pub mod Unique
