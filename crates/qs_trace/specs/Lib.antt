pub mod Items
pub mod FrameJson
pub mod Records
pub mod Laws
