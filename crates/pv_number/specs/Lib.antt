pub mod Scanning
pub mod Grammar
pub mod ExactNumber
pub mod NumberEquality
pub mod Decimals
pub mod WrittenIntegers
