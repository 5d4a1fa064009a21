pub mod formers
pub mod Names
pub mod Merging
pub mod NameOrders
pub mod Merged
pub mod Parts
pub mod Plain
