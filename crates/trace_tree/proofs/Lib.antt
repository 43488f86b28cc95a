pub mod Fronts
pub mod Pushed
pub mod Scans
