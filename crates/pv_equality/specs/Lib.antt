pub mod Equality
pub mod Hashable
pub mod Merging
pub mod Steps
