pub mod LongestWalks
pub mod JoinedWalks
pub mod MarkedCycles
pub mod ShortWalks
pub mod Successors
pub mod ReachingItself
pub mod Chains
pub mod Climbing
