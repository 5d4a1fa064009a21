pub mod CheckOpens
pub mod Rest
