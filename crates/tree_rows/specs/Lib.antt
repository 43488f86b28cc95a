pub mod Codes
pub mod Nests
pub mod Ended
