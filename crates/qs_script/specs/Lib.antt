pub mod Scripts
pub mod ScriptLaws
