pub mod Order
pub mod Listed
pub mod Crossing
pub mod Keys
