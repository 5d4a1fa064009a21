pub mod Written
pub mod NodeRules
pub mod Configs
pub mod Fields
pub mod Choices
pub mod Making
pub mod Reading
pub mod Effects
