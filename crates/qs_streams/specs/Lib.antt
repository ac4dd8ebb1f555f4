pub mod Rows
pub mod Boards
pub mod Tasks
pub mod Flags
