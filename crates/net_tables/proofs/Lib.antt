pub mod Finding
pub mod Kept
pub mod Stepping
pub mod Counting
pub mod Asked
pub mod Ids
