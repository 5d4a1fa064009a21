pub mod GoingFields
pub mod Objects
