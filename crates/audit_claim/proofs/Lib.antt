pub mod Places
pub mod Pieces
pub mod Apart
pub mod Claiming
pub mod Spelled
pub mod Inputs
