pub mod Agreeing
pub mod Behind
pub mod Excluding
pub mod Levels
pub mod Lookups
