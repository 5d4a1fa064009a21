pub mod Settings
pub mod Members
pub mod Allowed
