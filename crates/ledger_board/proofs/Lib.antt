pub mod FileEntries
pub mod FileTasks
pub mod Outcomes
