pub mod Comes
pub mod Does
pub mod Held
pub mod Named
pub mod Needs
pub mod Seen
pub mod Stored
pub mod Undone
