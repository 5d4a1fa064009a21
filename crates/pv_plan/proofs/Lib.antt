pub mod Absent
pub mod Searching
pub mod Placed
pub mod Tables
pub mod Fitting
