pub mod Lexicon
pub mod Forms
pub mod Lines
pub mod Assembly
pub mod Promised
pub mod Shown
pub mod private
