pub mod Parts
pub mod Takers
pub mod Turns
pub mod ScalarItems
