pub mod Ranges
pub mod Trace
pub mod SmallNets
pub mod Phased
pub mod Hierarchies
pub mod Flooding
