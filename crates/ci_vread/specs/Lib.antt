pub mod Lexicon
pub mod Grammar
pub mod Rules
pub mod Spelling
pub mod Promised
pub mod Laws
pub mod private
