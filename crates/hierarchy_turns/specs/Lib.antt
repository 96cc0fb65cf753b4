pub mod Network
pub mod Turns
pub mod Walked
pub mod Told
pub mod Promise
pub mod Limits
