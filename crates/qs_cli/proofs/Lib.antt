pub mod Answered
pub mod AnsweredDrained
pub mod Carried
