pub mod States
pub mod Judged
pub mod Reached
pub mod Searched
pub mod SearchTrees
