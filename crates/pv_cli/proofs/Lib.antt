pub mod Replies
pub mod Shapes
pub mod LinedFiles
pub mod LinedStops
pub mod Opening
