pub mod Settings
pub mod Tokens
pub mod Events
