pub mod Hungry
pub mod Joints
pub mod Turns
