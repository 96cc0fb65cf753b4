pub mod Masters
pub mod Step
pub mod Content
pub mod Walk
pub mod HierarchyRun
pub mod Example
pub mod Economy
