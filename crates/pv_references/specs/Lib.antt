pub mod Targets
pub mod Numbers
pub mod Nodes
pub mod Names
pub mod Edges
pub mod Cycles
pub mod Faults
