pub mod Grades
pub mod Counts
pub mod Under
pub mod Table
pub mod Wordings
pub mod Errors
pub mod Single
