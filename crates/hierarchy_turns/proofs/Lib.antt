pub mod Lawful
pub mod Turned
pub mod Rounds
pub mod HierarchyReading
pub mod Barred
pub mod Commands
pub mod Again
pub mod Scheduled
