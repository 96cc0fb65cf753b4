pub mod Tokens
pub mod Seen
pub mod Form
pub mod Command
pub mod Reading
