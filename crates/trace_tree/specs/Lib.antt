pub mod Traces
pub mod Spots
