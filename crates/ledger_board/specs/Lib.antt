pub mod Bytes
pub mod Tasks
pub mod Stops
pub mod Board
