mod CompactUtf8
mod Joins
mod Noting
mod Openings
mod Winning
