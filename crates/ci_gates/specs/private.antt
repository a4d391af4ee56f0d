pub mod Growing
pub mod Scopes
pub mod Wired
