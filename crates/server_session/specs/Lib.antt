pub mod Moved
pub mod Session
pub mod Own
