pub mod Reaching
pub mod Ending
