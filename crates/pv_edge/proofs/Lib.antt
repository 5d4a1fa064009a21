pub mod HeldLemmas
pub mod PutLemmas
pub mod Feeds
pub mod Limits
pub mod Taking
pub mod LineOrder
pub mod Staying
