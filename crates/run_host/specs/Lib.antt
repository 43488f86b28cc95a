pub mod Did
pub mod Ends
pub mod Moment
pub mod Steps
pub mod Told
pub mod Scopes
