pub mod Lists
pub mod Listed
pub mod Naming
pub mod Repeating
pub mod Rows
pub mod Marking
pub mod Telling
pub mod Circling
