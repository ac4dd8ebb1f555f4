pub mod Chunks
pub mod Kept
pub mod Replay
