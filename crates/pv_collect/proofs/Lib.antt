pub mod Parts
pub mod Finishing
