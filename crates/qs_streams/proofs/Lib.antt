pub mod Flags
pub mod BoardEdits
pub mod Searches
pub mod Leasts
pub mod BoardsOf
