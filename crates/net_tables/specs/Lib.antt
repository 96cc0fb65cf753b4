pub mod Known
pub mod Numbered
pub mod Numbering
pub mod Related
pub mod Words
pub mod Tables
pub mod Found
