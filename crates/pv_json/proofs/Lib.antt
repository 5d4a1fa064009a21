pub mod Suffixes
pub mod PlainTexts
pub mod EndLaws
pub mod Items
pub mod Steps
