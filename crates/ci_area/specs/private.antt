pub mod Judged
pub mod Tried
pub mod Searched
pub mod Beyond
