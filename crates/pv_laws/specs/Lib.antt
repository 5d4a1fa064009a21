pub mod Located
pub mod Locations
pub mod MissingFields
pub mod Kept
pub mod Patterns
pub mod Outcomes
