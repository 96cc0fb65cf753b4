pub mod Needed
pub mod Filling
pub mod Answering
