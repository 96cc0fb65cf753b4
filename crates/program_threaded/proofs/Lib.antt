pub mod Entering
pub mod Ending
pub mod Ordered
pub mod Parting
pub mod Taken
