pub mod Counts
pub mod Modules
pub mod Laws
pub mod private
