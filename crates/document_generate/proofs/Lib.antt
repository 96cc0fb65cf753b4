pub mod Wrapping
pub mod Chain
pub mod Rest
