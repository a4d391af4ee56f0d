pub mod Branches
pub mod Searched
pub mod Trees
pub mod Waiting
