pub mod Moving
pub mod Steps
pub mod Keeping
pub mod Starting
