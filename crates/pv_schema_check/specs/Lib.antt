pub mod Find
pub mod ObjectTypes
pub mod Checking
pub mod Answers
