pub mod Numbers
pub mod Members
pub mod Arithmetic
pub mod private
