pub mod Hops
pub mod Graph
pub mod Tree
pub mod Sides
pub mod Growing
pub mod Labels
