pub mod WholeNumbers
pub mod NumericStrings
pub mod Multiples
pub mod Numerals
