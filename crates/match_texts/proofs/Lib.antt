pub mod Grouping
pub mod Marking
pub mod Packed
