pub mod Lists
pub mod Joined
pub mod Sorted
pub mod Placed
pub mod Runs
