pub mod Walks
pub mod Reaching
pub mod Heights
pub mod Marks
pub mod Cycles
