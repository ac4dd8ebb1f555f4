pub mod PrintedScripts
pub mod ScriptDigits
pub mod ScriptLines
pub mod ScriptWords
