pub mod Teams
pub mod Runs
pub mod Wishes
pub mod Processes
