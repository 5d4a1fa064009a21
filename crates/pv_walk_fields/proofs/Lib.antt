pub mod FieldTurns
pub mod Around
