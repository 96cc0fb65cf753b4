pub mod Pairs
pub mod Applied
pub mod Fronts
pub mod Chains
pub mod Pens
