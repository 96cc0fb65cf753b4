pub mod Parts
pub mod Going
pub mod Opening
pub mod Closing
pub mod Sessions
pub mod Reached
