pub mod Appending
pub mod Told
