pub mod Numbers
pub mod Runs
pub mod Steps
pub mod Around
pub mod PieceEquality
pub mod Outstanding
pub mod Passing
pub mod Slots
