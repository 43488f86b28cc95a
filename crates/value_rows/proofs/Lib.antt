pub mod Chains
pub mod Given
