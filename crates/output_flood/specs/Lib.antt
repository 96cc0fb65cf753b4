pub mod Flooding
pub mod Held
pub mod Numbers
pub mod Lasting
pub mod Publications
pub mod Rows
pub mod Tables
