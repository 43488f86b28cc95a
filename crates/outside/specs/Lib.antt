-- What the contracts of this crate cite.
pub mod Faults
pub mod Memory
pub mod Reading
pub mod Words
