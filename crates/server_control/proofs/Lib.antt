pub mod Wanted
mod Sent
