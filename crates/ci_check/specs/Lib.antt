pub mod Rules
pub mod Representation
pub mod private
