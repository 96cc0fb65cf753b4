pub mod Pairs
pub mod Book
pub mod History
pub mod Chain
pub mod Ends
