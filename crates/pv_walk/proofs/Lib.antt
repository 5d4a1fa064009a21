pub mod Walking
pub mod ScalarChildren
