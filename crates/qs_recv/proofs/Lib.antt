pub mod RingLaws
pub mod LawfulLaws
pub mod RestLaws
pub mod RingApart
pub mod RingTurned
