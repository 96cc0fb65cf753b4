pub mod Pool
pub mod Sorted
