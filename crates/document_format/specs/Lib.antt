pub mod Edges
pub mod DocumentText
pub mod Limits
pub mod Writing
pub mod CommandText
