pub mod Strict
pub mod Claim
pub mod Stops
pub mod Reports
