pub mod Disk
pub mod Images
pub mod Memory
pub mod Kept
