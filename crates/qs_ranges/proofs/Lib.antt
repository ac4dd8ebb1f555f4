pub mod Edits
pub mod Apart
pub mod Sets
pub mod Places
pub mod OneWord
