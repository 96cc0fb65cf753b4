pub mod Core
pub mod Step
pub mod Acting
pub mod CoreKept
pub mod Stepping
pub mod Kept
pub mod Clocks
pub mod Ruling
