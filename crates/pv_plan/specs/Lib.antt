pub mod Records
pub mod Layout
pub mod BadPatterns
pub mod Faults
pub mod Functions
