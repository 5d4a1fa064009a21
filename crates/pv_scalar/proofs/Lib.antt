mod Firsts
mod IntLaws
pub mod WrittenInts
