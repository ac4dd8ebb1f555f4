pub mod Carrying
pub mod Runs
pub mod Draining
pub mod Waiting
