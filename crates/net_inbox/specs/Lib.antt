pub mod Inbox
pub mod Lines
