pub mod Parts
pub mod Message
