pub mod Keys
pub mod Kinds
pub mod Told
pub mod Operands
pub mod Texts
