pub mod Turns
pub mod Entries
pub mod Kept
pub mod SameTrees
pub mod SameRuns
pub mod SameOutputs
pub mod Shown
pub mod Laws
