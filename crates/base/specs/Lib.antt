pub mod Text
pub mod Laws
pub mod Numbers
pub mod Sets
pub mod Signature
