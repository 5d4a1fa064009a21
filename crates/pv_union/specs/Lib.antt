pub mod Choice
pub mod Unions
pub mod Labels
pub mod Tags
pub mod TagPlaces
pub mod Winners
