pub mod Counts
pub mod Changes
pub mod Asks
pub mod Cells
pub mod Moves
pub mod Walks
pub mod Places
