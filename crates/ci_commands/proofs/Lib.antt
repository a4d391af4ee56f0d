mod SearchLaws
mod Listed
mod WordLaws
mod ListedLaws
pub mod OneBlock
mod GateLaws
pub mod OneModule
pub mod Causes
mod RunTexts
