pub mod Installed
pub mod Routes
pub mod Rows
pub mod Columns
