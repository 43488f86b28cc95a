pub mod Called
pub mod Ended
pub mod Gives
pub mod Purse
