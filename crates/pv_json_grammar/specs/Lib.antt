pub mod Bytes
pub mod Reading
pub mod Strings
pub mod Values
pub mod Documents
pub mod SpelledStrings
pub mod Spells
pub mod DocumentTrees
