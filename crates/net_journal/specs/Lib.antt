pub mod Past
pub mod Journal
pub mod Merging
pub mod Record
