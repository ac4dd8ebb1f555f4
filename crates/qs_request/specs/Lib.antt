pub mod Examples
pub mod Requests
