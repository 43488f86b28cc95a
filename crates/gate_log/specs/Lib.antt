pub mod Log
pub mod Entries
pub mod Unique
pub mod Append
pub mod GateLog
pub mod Some
