pub mod Control
pub mod Offering
pub mod Held
