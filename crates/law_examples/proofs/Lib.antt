pub mod Owing
pub mod Lawful
pub mod LawfulNets
pub mod Replayed
pub mod Phased
pub mod SettledNotOwed
pub mod Floods
