pub mod EventText
pub mod Examples
pub mod Fields
pub mod FrameText
