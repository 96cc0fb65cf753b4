pub mod SettledRoots
pub mod Numbers
pub mod Rows
pub mod Picked
pub mod Over
mod Narrowing
