pub mod Counting
pub mod Found
pub mod Numbers
pub mod Parts
pub mod Puts
pub mod Takes
