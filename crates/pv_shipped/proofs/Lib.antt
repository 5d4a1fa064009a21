pub mod Parts
pub mod Decoded
pub mod Listified
