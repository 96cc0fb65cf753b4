pub mod Kinds
pub mod Comparing
pub mod Verdict
pub mod Answers
pub mod Laws
