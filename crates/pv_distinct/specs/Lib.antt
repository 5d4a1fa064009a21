pub mod Tokens
pub mod Keys
pub mod TokenOrder
pub mod Sightings
pub mod Ascending
