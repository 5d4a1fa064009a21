pub mod Patterns
pub mod Uuids
pub mod Urls
