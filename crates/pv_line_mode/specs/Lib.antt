pub mod Stops
pub mod OnePass
