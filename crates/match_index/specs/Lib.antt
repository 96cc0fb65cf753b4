pub mod Pairs
pub mod Groups
pub mod Sides
pub mod Lines
pub mod Keys
pub mod Heads
