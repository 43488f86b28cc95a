pub mod Finds
pub mod Tables
pub mod Recorders
pub mod Numbered
pub mod Orders
