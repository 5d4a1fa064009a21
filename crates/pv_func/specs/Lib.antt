pub mod Soundness
pub mod Wrapper
pub mod Functions
pub mod Raised
pub mod Exchange
pub mod Adding
