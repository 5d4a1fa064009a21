pub mod Numbers
pub mod Options
pub mod Operands
pub mod Command
pub mod Validating
pub mod Orders
pub mod Entries
