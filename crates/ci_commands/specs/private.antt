pub mod Causes
pub mod BlockFiles
