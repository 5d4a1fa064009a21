pub mod Answers
pub mod Force
pub mod Names
pub mod Picks
pub mod Seen
pub mod formers
