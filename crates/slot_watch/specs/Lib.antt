pub mod Keys
pub mod Named
pub mod Slots
pub mod Watched
pub mod Within
