pub mod Paths
pub mod Finding
pub mod FieldList
pub mod Kept
pub mod Planned
pub mod Directories
pub mod Entering
pub mod Sublists
