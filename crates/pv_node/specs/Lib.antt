pub mod Places
pub mod Preorder
pub mod Lending
pub mod Outward
pub mod Absent
pub mod Allowed
pub mod References
