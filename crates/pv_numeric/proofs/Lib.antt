pub mod Wholes
mod Digits
mod Products
pub mod Numerals
