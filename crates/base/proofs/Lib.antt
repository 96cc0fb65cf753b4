pub mod Roots
pub mod Sets
pub mod Numbers
pub mod Signatures
pub mod Lists
pub mod Results
pub mod Bools
