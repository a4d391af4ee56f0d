pub mod Draws
pub mod Texts
pub mod Programs
pub mod Laws
pub mod Runs
pub mod private
