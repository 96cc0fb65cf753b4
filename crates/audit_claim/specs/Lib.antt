pub mod Output
pub mod Difference
pub mod Trace
pub mod Claim
pub mod Reading
