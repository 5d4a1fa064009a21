pub mod Completions
pub mod Refusals
pub mod Others
pub mod Validates
pub mod Swaps
pub mod Walk
