pub mod Text
pub mod CustomWords
pub mod Leaders
pub mod Blocks
pub mod Patches
pub mod Laws
pub mod private
